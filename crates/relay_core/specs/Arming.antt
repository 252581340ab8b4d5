-- What it does to the relay that a call of one of its stores is to fail on purpose.
use Rattle.std.specs.Prelude.{◌≡◌, ℕ, Bool}
use Rattle.block_shelf.specs.Arming as shelves
use Rattle.block_shelf.specs.Calls.{KeepsAll}
use Rattle.block_shelf.specs.Devices.{CallsNone}
use Rattle.cyc_block.specs.declared.failing.FailAt.{FailAt}
use Rattle.cyc_block.specs.declared.store.BlockStore.{Ghosts}
use Rattle.relay_model.specs.World.{World}
use Rattle.relay_core.specs.Agreement.{Agrees, AgreesLeft}
use Rattle.relay_core.specs.declared.system.System.{System}

-- from here call number k of the store of this buffer fails, where there is such a buffer; the
-- buffer set keeps what it kept, no device is called, and nothing but the buffer set is another
pub record Arms {S : Type 0} {g : Ghosts (FailAt S)} (buffer k : ℕ) (old new : System (FailAt S) g)
    : Type 0 where
  pub buffer_set : shelves.Arms buffer k old.buffer_set new.buffer_set
  pub kept : KeepsAll old.buffer_set new.buffer_set
  pub calls : CallsNone old.buffer_set new.buffer_set
  pub rest : new ≡ record old { buffer_set = new.buffer_set }

-- the relay agrees with each world with which it agreed, whether its stores are trusted or not
abbrev pub AgreesStill : {S : Type 0} {g : Ghosts S} → (old new : System S g) → Type 0
AgreesStill old new = (trusted : Bool) (x : World) → Agrees trusted old x → Agrees trusted new x

-- and a crash may leave its stores where it might
abbrev pub StaysLeft : {S : Type 0} {g : Ghosts S} → (old new : System S g) → Type 0
StaysLeft old new = (x : World) → AgreesLeft old x → AgreesLeft new x
