-- What a buffer's head blocks have to do with it, and what a stop and an opening of its head leave.
use Rattle.std.specs.Prelude.{◌≡◌, ◌<◌, ◌+◌, ◌⊎◌, ℕ, Bool, true, false, is_some, length}
use Rattle.news_terms.specs.HeadBlocks.{HeadBlock, HeadState}
use Rattle.cyc_block.specs.Store.{block_at}
use Rattle.cyc_block.specs.declared.store.BlockStore.{Ghosts}
use Rattle.cyc_buffer.specs.Agreement.{Agrees, store_of, buffer_state_of}
use Rattle.cyc_buffer.specs.Answers.{fault_of}
use Rattle.cyc_buffer.specs.History.{History}
use Rattle.cyc_buffer.specs.BufferState.{buffer_of, numbers_in}
use Rattle.cyc_buffer.specs.Stopped.{TellsStarts}
use Rattle.cyc_buffer.specs.declared.answers.BufError.{BufError}
use Rattle.cyc_buffer.specs.declared.answers.BufError.TheVariants as errors
use Rattle.cyc_buffer.specs.declared.answers.FaultKind.TheVariants as kinds
use Rattle.cyc_buffer.specs.declared.answers.FormatError.{FormatError}
use Rattle.cyc_buffer.specs.declared.answers.FormatError.TheVariants as formats
use Rattle.cyc_buffer.specs.declared.buffer.Buffer.{Buffer}
use Rattle.cyc_buffer.specs.declared.unopened.Unopened.{Unopened}

-- the buffer has said in head block 0 that it may change
abbrev pub has_open_head : {S : Type 0} {g : Ghosts S} → Buffer S g → Bool
has_open_head buffer = buffer.has_open_head

-- the buffer that is started, before its head is open
abbrev pub inside : {S : Type 0} {g : Ghosts S} → Unopened S g → Buffer S g
inside unopened = unopened.buffer

-- the number of the stop that the buffer was started from; 0 where it was made anew
abbrev pub stop_of : {S : Type 0} {g : Ghosts S} → Buffer S g → ℕ
stop_of buffer = buffer.stop

-- what head block 0 would say of the buffer in this state, under the number of a stop
abbrev pub said_of : {S : Type 0} {g : Ghosts S} → HeadState → (stop : ℕ) → Buffer S g → HeadBlock
said_of state stop buffer = numbers_in (buffer_state_of buffer) state stop

-- a write is open
abbrev pub is_busy : {S : Type 0} {g : Ghosts S} → Buffer S g → Bool
is_busy buffer = is_some (buffer_state_of buffer).progress

-- the error is the device's at a write of a head block, which speaks of no article
abbrev pub IsHeadFault : {S : Type 0} {g : Ghosts S} → Buffer S g → BufError → Type 0
IsHeadFault buffer e =
    e ≡ errors.Device (fault_of (buffer_of (buffer_state_of buffer).line) kinds.Write 0)

-- a stop is refused while a write is open, or where the device failed during the call
abbrev pub IsStopRefusal : {S : Type 0} {g : Ghosts S} → Buffer S g → BufError → Buffer S g → Type 0
IsStopRefusal old errors.TooBig new = ⊥
IsStopRefusal old (errors.Worn fault) new = ⊥
IsStopRefusal old errors.Busy new = (is_busy old ≡ true) × (store_of new ≡ store_of old)
IsStopRefusal {g = g} old (errors.Device fault) new =
    (is_busy old ≡ false) × IsHeadFault old (errors.Device fault)
    × (g.failures (store_of old) < g.failures (store_of new))

-- what is called stays honest and keeps its blocks, whatever its head blocks hold
pub record LeavesBlocks {S : Type 0} (g : Ghosts S) (old new : S) : Type 0 where
  pub honest : g.honest old → g.honest new
  pub blocks : g.honest old → g.blocks new ≡ g.blocks old
  pub count : length (g.blocks new) ≡ length (g.blocks old)

-- of a buffer nothing is another than before but what the head blocks of its device hold
pub record LeavesBuffer {S : Type 0} {g : Ghosts S} (old new : Buffer S g) : Type 0 where
  pub buffer_state : buffer_state_of new ≡ buffer_state_of old
  pub opened : has_open_head new ≡ has_open_head old
  pub stop : stop_of new ≡ stop_of old
  pub store : LeavesBlocks g (store_of old) (store_of new)

-- A buffer isn't made where memory was refused, and then the store is as it was, or where the
-- device failed at the one call that was made of it.
abbrev pub IsFormatRefusal : {S : Type 0} (g : Ghosts S) → (old : S) → FormatError → (new : S)
    → Type 0
IsFormatRefusal g old formats.Memory new = new ≡ old
IsFormatRefusal g old formats.Device new =
    (g.failures old < g.failures new) × (g.calls new ≡ g.calls old + 1) × LeavesBlocks g old new

-- head block 0 holds what it held, or the bitmap is there
abbrev pub IsInOrder : {S : Type 0} {g : Ghosts S} → Buffer S g → Buffer S g → Type 0
IsInOrder {g = g} old new =
    (block_at (g.heads (store_of new)) 0 ≡ block_at (g.heads (store_of old)) 0)
    ⊎ ((h : History) → Agrees true old h → TellsStarts (g.heads (store_of new)) h)
