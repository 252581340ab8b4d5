use Rattle.std.proofs.Common.{◌≡◌, length}
use Rattle.id_history.specs.Conditions.{are_positions}
use Rattle.id_history.proofs.conditions.are_positions.Given as goal

-- what is left passes exactly where all does
abbrev pub invariant-loop-position : goal.invariant-loop-position
invariant-loop-position l = are_positions l.left l.counts ≡ are_positions l.positions l.groups

abbrev pub decreases-loop-position : goal.decreases-loop-position
decreases-loop-position l = length l.left
