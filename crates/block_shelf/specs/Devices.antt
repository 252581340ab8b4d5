-- How often the devices of a buffer set are called.
use Rattle.std.specs.Prelude.{◌≡◌, ◌⊎◌, ℕ, ◌+◌, Option, None, Some, slice_get}
use Rattle.cyc_block.specs.declared.store.BlockStore.{Ghosts}
use Rattle.cyc_buffer.specs.Agreement.{store_of}
use Rattle.cyc_buffer.specs.declared.buffer.Buffer.{Buffer}
use Rattle.block_shelf.specs.declared.buffer_set.BufferSet.{BufferSet}

-- how often the device of a buffer was called, where there is one
abbrev pub calls_of : {S : Type 0} {g : Ghosts S} → Option (Buffer S g) → ℕ
calls_of None = 0
calls_of {g = g} (Some code) = g.calls (store_of code)

-- how often the device of the buffer of this number was called
abbrev pub calls_at : {S : Type 0} {g : Ghosts S} → BufferSet S g → ℕ → ℕ
calls_at buffer_set number = calls_of (slice_get buffer_set.buffers.items number)

-- no device is called
abbrev pub CallsNone : {S : Type 0} {g : Ghosts S} → (old new : BufferSet S g) → Type 0
CallsNone old new = (number : ℕ) → calls_at new number ≡ calls_at old number

-- no other device is called than that of this buffer, and that once or not at all
pub record CallsOneAtMost {S : Type 0} {g : Ghosts S} (number : ℕ) (old new : BufferSet S g)
    : Type 0
  where
    pub here : (calls_at new number ≡ calls_at old number)
        ⊎ (calls_at new number ≡ calls_at old number + 1)
    pub others : (k : ℕ) → (k ≡ number → ⊥) → calls_at new k ≡ calls_at old k
