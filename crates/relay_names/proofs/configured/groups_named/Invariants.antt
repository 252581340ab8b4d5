use Rattle.std.proofs.Common.{◌≡◌, map, take}
use Rattle.relay_names.specs.Names.{group_names}
use Rattle.relay_names.specs.Views.{group_view}
use Rattle.relay_names.proofs.configured.groups_named.Given as goal

-- the names are those of the groups so far
abbrev pub invariant-loop-group : goal.invariant-loop-group
invariant-loop-group l =
    map group_view l.names.items ≡ map (group_names l.buffers) (take l.group-index l.groups)
