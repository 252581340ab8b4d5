use Rattle.std.proofs.Common.{◌≡◌, map, take}
use Rattle.relay_names.specs.Views.{group_view}
use Rattle.relay_names.proofs.sameness.are_same_groups.Given as goal

-- the groups so far are the same
abbrev pub invariant-loop-i : goal.invariant-loop-i
invariant-loop-i l = map group_view (take l.i l.a) ≡ map group_view (take l.i l.b)
