use Rattle.std.proofs.Common.{◌≡◌, length, map}
use Rattle.id_history.specs.Conditions.{are_positions}
use Rattle.named_history.specs.Naming.{buffer_count}
use Rattle.relay_names.specs.Views.{group_view}
use Rattle.named_history.proofs.groups.are_positions.Given as goal

-- what is left passes exactly where all does
abbrev pub invariant-loop-position : goal.invariant-loop-position
invariant-loop-position l =
    are_positions l.left (map buffer_count (map group_view l.others))
    ≡ are_positions l.positions (map buffer_count (map group_view l.groups))

abbrev pub decreases-loop-position : goal.decreases-loop-position
decreases-loop-position l = length l.left
