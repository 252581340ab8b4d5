use Rattle.std.proofs.Common.{◌≡◌, ◌≤◌, All, vec_len, vec_capacity}
use Rattle.relay_model.specs.Claims.{Unknown}
use Rattle.id_history.specs.Shard.{Keeps}
use Rattle.id_history.proofs.shards.Shards.seeded.Given as goal

-- each shard so far keeps nothing, and there is room for sixteen
abbrev pub invariant-loop : goal.invariant-loop
invariant-loop l =
    (vec_len l.shards ≡ l.counter) × (16 ≤ vec_capacity l.shards)
    × All (λ one. Keeps one (λ id. Unknown)) l.shards.items
