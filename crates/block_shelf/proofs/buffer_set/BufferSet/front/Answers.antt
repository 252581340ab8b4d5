use Rattle.std.proofs.Common.{refl}
use Rattle.block_shelf.proofs.BufferSetReads.{fronts_are}
use Rattle.block_shelf.proofs.Shelving.{buffers_kept, past_last, read_there}
use Rattle.block_shelf.proofs.buffer_set.BufferSet.front.Goals as goal

pub returns : goal.returns
returns g c = λ trusted w σ openings failures keeps.
    rw (← c.from.ensures)
    (fronts_are σ (buffers_kept keeps) c.from.result c.passed.result
    (rw c.deref.ensures.value at
    (read_there c.deref.result.now c.from.result c.in_ok-get.ensures.lookup))
    c.passed.ensures)

-- past the last buffer there is none
pub returns-in_err-get : goal.returns-in_err-get
returns-in_err-get g c = λ trusted w σ openings failures keeps.
    rw (
      c.from_residual.ensures,
      ← c.from.ensures,
      past_last (buffers_kept keeps) c.from.result
          (rw c.deref.ensures.value at c.in_err-get.ensures.lookup.0),
    ) refl
