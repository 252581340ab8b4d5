-- Where none is open or another is, this one can't be finished.
use Rattle.std.proofs.Common.{◌∙◌, subst, sym}
use Rattle.std.proofs.lemmas.Bool.{false≢true}
use Rattle.cyc_buffer.specs.Progress.{IsTheOpen}
use Rattle.cyc_buffer.proofs.buffer_state.BufferState.can_finish.Goals as goal

-- none is open
pub returns-in_default-2 : goal.returns-in_default-2
returns-in_default-2 c = (
  λ e. absurd (false≢true e),
  λ can. absurd (subst (IsTheOpen c.args.write.now) c.in_default.is can.owned),
)

-- another is open
pub returns-else-owns : goal.returns-else-owns
returns-else-owns c = (
  λ e. absurd (false≢true (sym c.if-owns.false ∙ e)),
  λ can. absurd (false≢true (sym c.if-owns.false ∙ c.owns.ensures.1 can.owned)),
)
