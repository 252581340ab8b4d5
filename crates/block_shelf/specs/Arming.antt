-- What it does to a buffer set that a call of one of its stores is to fail on purpose.
use Rattle.std.specs.Prelude.{◌≡◌, ◌≢◌, ℕ, Option, None, option_map, slice_get}
use Rattle.cyc_block.specs.Failing.{armed}
use Rattle.cyc_block.specs.declared.failing.FailAt.{FailAt}
use Rattle.cyc_block.specs.declared.store.BlockStore.{Ghosts}
use Rattle.cyc_buffer.specs.Agreement.{buffer_state_of, store_of}
use Rattle.cyc_buffer.specs.declared.buffer.Buffer.{Buffer}
use Rattle.block_shelf.specs.declared.buffer_set.BufferSet.{BufferSet}

-- the buffer of this number, where there is one
abbrev pub buffer_at : {S : Type 0} {g : Ghosts S} → BufferSet S g → ℕ → Option (Buffer S g)
buffer_at buffer_set number = slice_get buffer_set.buffers.items number

-- From here call number k of the store of this buffer fails, and nothing else is another: no other
-- buffer, and no group. Where there is no such buffer, nothing at all.
pub record Arms {S : Type 0} {g : Ghosts (FailAt S)} (number k : ℕ)
    (old new : BufferSet (FailAt S) g)
    : Type 0 where
  pub store : option_map store_of (buffer_at new number)
      ≡ option_map (λ buffer. armed k (store_of buffer)) (buffer_at old number)
  pub buffer_state : option_map buffer_state_of (buffer_at new number)
      ≡ option_map buffer_state_of (buffer_at old number)
  pub others : (j : ℕ) → j ≢ number → buffer_at new j ≡ buffer_at old j
  pub placed_groups : new.placed_groups ≡ old.placed_groups
  pub missing : buffer_at old number ≡ None → new ≡ old
