use Rattle.std.proofs.Common.{◌≡◌, drop, map}
use Rattle.relay_conf.specs.Cycbuff.{is_listed}
use Rattle.relay_conf.specs.Places.{group_view}
use Rattle.relay_conf.proofs.cycbuff.is_listed.Given as goal

-- the number stands in no group so far
abbrev pub invariant-loop-group : goal.invariant-loop-group
invariant-loop-group l =
    is_listed (map group_view (drop l.group-index l.groups)) l.number
    ≡ is_listed (map group_view l.groups) l.number
