use Rattle.std.proofs.Common.{◌≡◌, length, map}
use Rattle.id_history.specs.Conditions.{are_positions}
use Rattle.relay_conf.specs.Places.{group_view, groups_over}
use Rattle.relay_conf.specs.Settings.{places_of_groups}
use Rattle.relay_core.specs.Desks.{members_of}
use Rattle.relay_startup.proofs.causes.are_positions.Given as goal

-- what is left passes exactly where all does
abbrev pub invariant-loop-position : goal.invariant-loop-position
invariant-loop-position l =
    are_positions l.left
    (map members_of (groups_over l.settings.buffers.items (map group_view l.groups)))
    ≡ are_positions l.positions (map members_of (places_of_groups l.settings))

abbrev pub decreases-loop-position : goal.decreases-loop-position
decreases-loop-position l = length l.left
