use Rattle.std.proofs.Common.{ap, option_map, sym}
use Rattle.relay_model.specs.Figures.{buffer_figures}
use Rattle.block_shelf.proofs.Reported.{figures_are}
use Rattle.block_shelf.proofs.Shelving.{buffers_kept, past_last, read_there}
use Rattle.block_shelf.proofs.buffer_set.BufferSet.figures.Goals as goal

pub returns : goal.returns
returns g c = λ trusted w σ openings failures keeps.
    rw (← c.from.ensures)
    (figures_are σ (buffers_kept keeps) c.from.result
    (rw c.deref.ensures.value at
    (read_there c.deref.result.now c.from.result c.in_ok-buffer.ensures.lookup))
    c.cycle.ensures c.front.ensures c.begun.ensures c.stored.ensures)

-- past the last buffer there are none
pub returns-in_err-buffer : goal.returns-in_err-buffer
returns-in_err-buffer g c = λ trusted w σ openings failures keeps.
    rw (c.from_residual.ensures, ← c.from.ensures)
    (sym (ap (option_map (buffer_figures w σ))
    (past_last (buffers_kept keeps) c.from.result
    (rw c.deref.ensures.value at c.in_err-buffer.ensures.lookup.0))))
