use Rattle.std.proofs.Common.{◌≡◌, length, map}
use Rattle.history_names.specs.Changes.{group_names, is_among}
use Rattle.relay_names.specs.Views.{group_view}
use Rattle.history_names.proofs.changes.is_group.Given as goal

-- it is among those that are left, or it isn't there
abbrev pub invariant-loop-group : goal.invariant-loop-group
invariant-loop-group l =
    is_among (group_names (map group_view l.left)) l.name
    ≡ is_among (group_names (map group_view l.groups)) l.name

-- the groups that are left
abbrev pub decreases-loop-group : goal.decreases-loop-group
decreases-loop-group l = length l.left
