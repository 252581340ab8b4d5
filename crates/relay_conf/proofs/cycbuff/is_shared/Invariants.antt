use Rattle.std.proofs.Common.{◌≡◌, [], map, take, drop}
use Rattle.relay_conf.specs.Cycbuff.{is_shared}
use Rattle.relay_conf.specs.Places.{group_view}
use Rattle.relay_conf.proofs.cycbuff.is_shared.Given as goal

-- none of the numbers passed is listed already
abbrev pub invariant-loop-index : goal.invariant-loop-index
invariant-loop-index l =
    is_shared (map group_view l.groups) [] l.numbers
    ≡ is_shared (map group_view l.groups) (take l.index l.numbers) (drop l.index l.numbers)
