use Rattle.std.proofs.Common.{◌≡◌, length, map}
use Rattle.id_history.specs.Conditions.{ids_hold}
use Rattle.id_history.specs.Views.{id_view}
use Rattle.id_history.proofs.conditions.ids_hold.Given as goal

-- what is left passes exactly where all does
abbrev pub invariant-loop-one : goal.invariant-loop-one
invariant-loop-one l =
    ids_hold l.buffers (map id_view l.left) ≡ ids_hold l.buffers (map id_view l.ids)

abbrev pub decreases-loop-one : goal.decreases-loop-one
decreases-loop-one l = length l.left
