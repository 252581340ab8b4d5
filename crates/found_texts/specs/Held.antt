-- What a reading leaves of the buffers: nothing is written, and which devices have failed
-- (docs/PROTOCOL.md, Crashes).
use Rattle.std.specs.Prelude.{◌≡◌, ◌≢◌, ◌<◌, ℕ, Some, slice_get}
use Rattle.block_shelf.specs.Each.{AreEach}
use Rattle.buffer_repair.specs.Parts.{store_in}
use Rattle.buffer_repair.specs.declared.found_set.FoundBufferSet.{FoundBufferSet}
use Rattle.cyc_block.specs.declared.store.BlockStore.{Ghosts}
use Rattle.cyc_buffer.specs.Reads.{StaysHeld}
use Rattle.cyc_buffer.specs.declared.starting.Started.{Started}
use Rattle.found_texts.specs.declared.fault.ReadFault.{ReadFault}
use Rattle.found_texts.specs.declared.fault.ReadFault.TheVariants as faults

-- nothing was written to a buffer: what its store holds stays, its stop and its tokens too
pub record IsHeld {S : Type 0} {g : Ghosts S} (number : ℕ) (old new : Started S g) : Type 0 where
  pub store : StaysHeld g (store_in old) (store_in new)
  pub stop : new.stop ≡ old.stop
  pub tokens : new.tokens ≡ old.tokens

-- nothing was written to any buffer
abbrev pub AreHeld : {S : Type 0} {g : Ghosts S} → (old new : FoundBufferSet S g) → Type 0
AreHeld old new = AreEach IsHeld old.found.items new.found.items

-- how often the device of a buffer has failed
abbrev pub failures_in : {S : Type 0} {g : Ghosts S} → Started S g → ℕ
failures_in {g = g} one = g.failures (store_in one)

-- the device of a buffer hasn't failed
pub record IsUnfailed {S : Type 0} {g : Ghosts S} (number : ℕ) (old new : Started S g) : Type 0
  where
    pub same : failures_in new ≡ failures_in old

-- no device has failed
abbrev pub NoneFailed : {S : Type 0} {g : Ghosts S} → (old new : FoundBufferSet S g) → Type 0
NoneFailed old new = AreEach IsUnfailed old.found.items new.found.items

-- the device of a buffer has failed where it is that of one number, and not where it is another's
pub record FailsAt {S : Type 0} {g : Ghosts S} (failed number : ℕ) (old new : Started S g) : Type 0
  where
    pub here : number ≡ failed → failures_in old < failures_in new
    pub beside : number ≢ failed → failures_in new ≡ failures_in old

-- there is a buffer of this number, its device has failed, and no other has
pub record HasFailedAlone {S : Type 0} {g : Ghosts S} (old : FoundBufferSet S g) (failed : ℕ)
    (new : FoundBufferSet S g)
    : Type 0 where
  pub one : Started S g
  pub there : slice_get old.found.items failed ≡ Some one
  pub each : AreEach (FailsAt failed) old.found.items new.found.items

-- why a reading has ended: memory was refused and no device has failed, or the device of the buffer
-- of this number has
abbrev pub IsReadFault : {S : Type 0} {g : Ghosts S} → (old : FoundBufferSet S g) → ReadFault
    → (new : FoundBufferSet S g) → Type 0
IsReadFault old faults.Memory new = NoneFailed old new
IsReadFault old (faults.Device number) new = HasFailedAlone old number new
