-- What it does to a buffer that a call of its store is to fail on purpose.
use Rattle.std.specs.Prelude.{◌≡◌, ℕ}
use Rattle.cyc_block.specs.Failing.{armed}
use Rattle.cyc_block.specs.Seen.{LooksSame}
use Rattle.cyc_block.specs.declared.failing.FailAt.{FailAt}
use Rattle.cyc_block.specs.declared.store.BlockStore.{Ghosts}
use Rattle.cyc_buffer.specs.Agreement.{buffer_state_of, store_of}
use Rattle.cyc_buffer.specs.Head.{has_open_head}
use Rattle.cyc_buffer.specs.declared.buffer.Buffer.{Buffer}

-- from here call number k of the store fails, nothing else of the store is seen to be another, and
-- what the buffer keeps in memory isn't
pub record Arms {S : Type 0} {g : Ghosts (FailAt S)} (k : ℕ) (old new : Buffer (FailAt S) g)
    : Type 0 where
  pub store : store_of new ≡ armed k (store_of old)
  pub seen : LooksSame g (store_of old) (store_of new)
  pub buffer_state : buffer_state_of new ≡ buffer_state_of old
  pub opened : has_open_head new ≡ has_open_head old
