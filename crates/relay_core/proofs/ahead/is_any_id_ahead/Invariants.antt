use Rattle.std.proofs.Common.{◌≡◌, length, map}
use Rattle.std.specs.List.{list_any}
use Rattle.id_history.specs.Views.{id_view}
use Rattle.cyc_buffer.specs.Filled.{filled_view}
use Rattle.relay_core.specs.Ahead.{is_id_ahead}
use Rattle.relay_core.proofs.ahead.is_any_id_ahead.Given as goal

-- what is left passes exactly where all does
abbrev pub invariant-loop-one : goal.invariant-loop-one
invariant-loop-one l =
    list_any (is_id_ahead (map filled_view l.filled)) (map id_view l.left)
    ≡ list_any (is_id_ahead (map filled_view l.filled)) (map id_view l.ids)

abbrev pub decreases-loop-one : goal.decreases-loop-one
decreases-loop-one l = length l.left
