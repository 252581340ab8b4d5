use Rattle.std.proofs.Common.{◌≡◌, List, ℕ, map, take, vec_len, vec_capacity}
use Rattle.std.specs.List.{AllByRecursion, sum_by}
use Rattle.id_history.specs.History.{IdFits}
use Rattle.id_history.specs.Views.{id_view}
use Rattle.relay_model.specs.Claims.{Claim}
use Rattle.id_history.specs.Lasting.{HasLasting}
use Rattle.id_history.specs.LastingIn.{all_lasting, lasting_count}
use Rattle.id_history.specs.Shards.{KeepsAll}
use Rattle.id_history.proofs.JoinLemmas.{below}
use Rattle.id_history.proofs.shards.Shards.entries.Given as goal

-- what is left of the shards so far was gathered, and there is room for all
abbrev pub invariant-loop-shard : goal.invariant-loop-shard
invariant-loop-shard l =
    ((claims : List ℕ → Claim) → KeepsAll l.self claims
    → HasLasting (map id_view l.entries.items) (below l.shard-index claims))
    × (vec_len l.entries ≡ sum_by lasting_count (take l.shard-index l.self.shards.items))
    × (vec_capacity l.entries ≡ all_lasting l.self)
    × AllByRecursion IdFits (map id_view l.entries.items)
