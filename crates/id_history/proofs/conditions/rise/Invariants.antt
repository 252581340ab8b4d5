use Rattle.std.proofs.Common.{◌≡◌, length, map}
use Rattle.id_history.specs.Conditions.{rise}
use Rattle.id_history.specs.Views.{id_view}
use Rattle.id_history.proofs.conditions.rise.Given as goal

-- what is left passes exactly where all does
abbrev pub invariant-loop-one : goal.invariant-loop-one
invariant-loop-one l = rise (map id_view l.left) ≡ rise (map id_view l.ids)

abbrev pub decreases-loop-one : goal.decreases-loop-one
decreases-loop-one l = length l.left
