use Rattle.std.proofs.Common.{◌≡◌, ◌++◌, drop, map}
use Rattle.named_history.specs.Naming.{positions_by}
use Rattle.relay_names.specs.Views.{group_view}
use Rattle.named_history.proofs.groups.positions_by.Given as goal

-- the positions so far and those of the groups that are left are those of all
abbrev pub invariant-loop-group : goal.invariant-loop-group
invariant-loop-group l =
    l.positions.items
    ++ positions_by (map group_view l.known) l.kept (map group_view (drop l.group-index l.own))
    ≡ positions_by (map group_view l.known) l.kept (map group_view l.own)
