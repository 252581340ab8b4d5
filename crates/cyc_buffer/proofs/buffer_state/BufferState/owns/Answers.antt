-- Where none is open, none is this one.
use Rattle.std.proofs.Common.{subst}
use Rattle.std.proofs.lemmas.Bool.{false≢true}
use Rattle.cyc_buffer.specs.Progress.{IsTheOpen}
use Rattle.cyc_buffer.proofs.buffer_state.BufferState.owns.Goals as goal

pub returns-in-None : goal.returns-in-None
returns-in-None c = (
  λ e. absurd (false≢true e),
  λ owned. absurd (subst (IsTheOpen c.args.write.now) c.in-None.is owned),
)
