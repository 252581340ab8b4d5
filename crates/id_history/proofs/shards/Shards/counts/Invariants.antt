use Rattle.std.proofs.Common.{◌≡◌, ◌+◌, ◌*◌, ◌^◌, List, ℕ, take}
use Rattle.std.specs.List.{sum_by}
use Rattle.relay_model.specs.Claims.{Claim}
use Rattle.id_history.specs.Counts.{CountsOf, AtMost}
use Rattle.id_history.specs.LastingIn.{lasting_count}
use Rattle.id_history.specs.Shards.{KeepsAll}
use Rattle.id_history.proofs.JoinLemmas.{below}
use Rattle.id_history.proofs.shards.Shards.counts.Given as goal

-- the counts so far are those of the ids of the shards so far
abbrev pub invariant-loop-shard : goal.invariant-loop-shard
invariant-loop-shard l =
    ((claims : List ℕ → Claim) → KeepsAll l.self claims
    → CountsOf (below l.shard-index claims) l.counts)
    × AtMost (l.shard-index * 2 ^ 63) l.counts
    × (l.counts.stored + l.counts.refused
    ≡ sum_by lasting_count (take l.shard-index l.self.shards.items))
