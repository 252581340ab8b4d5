-- Why a buffer isn't stopped and started again in place (docs/PROTOCOL.md, Clean stop and start).
use Rattle.std.specs.Prelude.{◌≡◌, ◌≢◌, ◌<◌, ℕ, false, List}
use Rattle.news_terms.specs.HeadBlocks.{Closed}
use Rattle.cyc_block.specs.declared.store.BlockStore.{Ghosts}
use Rattle.cyc_buffer.specs.Agreement.{store_of}
use Rattle.cyc_buffer.specs.Head.{IsHeadFault, IsStopRefusal, is_busy}
use Rattle.cyc_buffer.specs.Marks.{is_marked}
use Rattle.cyc_buffer.specs.Reads.{IsBlamed}
use Rattle.cyc_buffer.specs.BufferState.{numbers_in}
use Rattle.cyc_buffer.specs.Starting.{IsOutside}
use Rattle.cyc_buffer.specs.declared.buffer.Buffer.{Buffer}
use Rattle.cyc_buffer.specs.declared.buffer_state.BufferState.{BufferState}
use Rattle.cyc_buffer.specs.declared.restarting.RestartError.{RestartError}
use Rattle.cyc_buffer.specs.declared.restarting.RestartError.TheVariants as errors

-- of one of so many blocks the marks differ
pub record HaveOther (one other : List ℕ) (count : ℕ) : Type 0 where
  pub at : ℕ
  pub within : at < count
  pub differ : is_marked one at ≢ is_marked other at

-- the numbers and the marks of first blocks are those of another register
pub record IsSameBufferState (one other : BufferState) : Type 0 where
  pub numbers : numbers_in one Closed 0 ≡ numbers_in other Closed 0
  pub starts : (j : ℕ) → j < one.line.blocks
      → is_marked one.starts.words.items j ≡ is_marked other.starts.words.items j

-- A restart is refused where the stop is, at the start for a fault of the device or another reason,
-- and at the opening of the head where the device failed.
abbrev pub IsRestartRefusal : {S : Type 0} {g : Ghosts S} → Buffer S g → RestartError → Buffer S g
    → Type 0
IsRestartRefusal old (errors.Stop error) new = IsStopRefusal old error new
IsRestartRefusal {g = g} old (errors.Start error) new =
    (is_busy old ≡ false) × IsBlamed g (store_of old) (store_of new) error
IsRestartRefusal {g = g} old (errors.Open error) new =
    (is_busy old ≡ false) × IsHeadFault old error
    × (g.failures (store_of old) < g.failures (store_of new))

-- the refusal has nothing to do with what was read back
abbrev pub IsFromWithout : RestartError → Type 0
IsFromWithout (errors.Stop error) = Unit {0}
IsFromWithout (errors.Start error) = IsOutside error
IsFromWithout (errors.Open error) = Unit {0}
