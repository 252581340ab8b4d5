use Rattle.post_history.proofs.PassingLemmas.{AreLaterTo}
use Rattle.post_history.proofs.passing.are_later.Given as goal

-- the fronts so far are later
abbrev pub invariant-loop-place : goal.invariant-loop-place
invariant-loop-place l = AreLaterTo l.place l.old l.new
