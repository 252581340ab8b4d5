-- Where none is open, nothing can be written.
use Rattle.std.proofs.Common.{subst}
use Rattle.std.proofs.lemmas.Bool.{false≢true}
use Rattle.cyc_buffer.specs.Progress.{IsTheOpen}
use Rattle.cyc_buffer.proofs.buffer_state.BufferState.can_write.Goals as goal

pub returns-in_default : goal.returns-in_default
returns-in_default c = (
  λ e. absurd (false≢true e),
  λ can. absurd (subst (IsTheOpen c.args.write.now) c.in_default.is can.owned),
)
