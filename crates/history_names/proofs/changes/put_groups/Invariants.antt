use Rattle.std.proofs.Common.{◌≡◌, ◌++◌, flat_map, length, map}
use Rattle.history_names.specs.Changes.{ended, group_names, of_groups}
use Rattle.relay_names.specs.Views.{group_view}
use Rattle.history_names.proofs.changes.put_groups.Given as goal

-- the lines of the groups that are left make up what is to be there
abbrev pub invariant-loop-group : goal.invariant-loop-group
invariant-loop-group l =
    l.out.items ++ flat_map ended (of_groups (group_names (map group_view l.others)) l.end
    (group_names (map group_view l.left)))
    ≡ l.fn.out.items ++ flat_map ended (of_groups (group_names (map group_view l.others)) l.end
    (group_names (map group_view l.groups)))

-- the groups that are left
abbrev pub decreases-loop-group : goal.decreases-loop-group
decreases-loop-group l = length l.left
