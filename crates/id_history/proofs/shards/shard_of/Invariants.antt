use Rattle.std.proofs.Common.{◌≡◌, ◌<◌, ◌%◌, take}
use Rattle.std.specs.List.{sum}
use Rattle.id_history.proofs.shards.shard_of.Given as goal

-- what was added so far is the sum of the octets before, modulo 16
abbrev pub invariant-loop-octet : goal.invariant-loop-octet
invariant-loop-octet l =
    (l.octet-items ≡ l.fn.id) × (l.shard ≡ sum (take l.octet-index l.octet-items) % 16)
    × (l.shard < 16)
