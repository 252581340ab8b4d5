use Rattle.post_history.proofs.PassingLemmas.{AreInOrderTo}
use Rattle.post_history.proofs.passing.are_in_order.Given as goal

-- the fronts so far are of the buffers of their places
abbrev pub invariant-loop-place : goal.invariant-loop-place
invariant-loop-place l = AreInOrderTo l.place l.fronts
