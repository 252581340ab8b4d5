-- Which claims sixteen shards keep together (docs/PROTOCOL.md, Claims).
use Rattle.std.specs.Prelude.{◌≡◌, ◌<◌, ◌==◌, ℕ, List, length, if◌then◌else◌, slice_index_or}
use Rattle.relay_model.specs.Claims.{Claim, Unknown}
use Rattle.relay_model.specs.Run.{shard_of}
use Rattle.id_history.specs.declared.claims.Shard.{Shard}
use Rattle.id_history.specs.declared.shards.Shards.{Shards}
use Rattle.id_history.specs.Mark.{mark_of}
use Rattle.id_history.specs.Shard.{mark_at, Keeps}

-- the shards keep these claims: of each message-id its own shard has the claim, but for article and
-- stage; `none` would stand for a shard past the sixteenth
pub record KeepsAll (shards : Shards) (claims : List ℕ → Claim) : Type 0 where
  pub agrees : (id : List ℕ) (none : Shard)
      → mark_at (slice_index_or shards.shards.items (shard_of id) none) id ≡ mark_of (claims id)

-- the claims of one shard's ids; of no other id anything is known
abbrev pub claims_at : ℕ → (List ℕ → Claim) → List ℕ → Claim
claims_at k claims id = if shard_of id == k then claims id else Unknown

-- each shard of the list keeps the claims of its own ids; `none` would stand for one past the last
pub record EachKeeps (shards : List Shard) (claims : List ℕ → Claim) : Type 0 where
  pub each : (k : ℕ) (none : Shard) → k < length shards
      → Keeps (slice_index_or shards k none) (claims_at k claims)
