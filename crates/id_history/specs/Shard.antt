-- Which claims a shard keeps (docs/PROTOCOL.md, Claims).
use Rattle.std.specs.Prelude.{◌≡◌, ℕ, List}
use Rattle.std.specs.HashMap.{get_by_text}
use Rattle.relay_model.specs.Claims.{Claim}
use Rattle.id_history.specs.declared.claims.Shard.{Shard}
use Rattle.id_history.specs.Mark.{Mark, mark_of, entry_mark}

-- what the shard has of the message-id
unfoldable pub mark_at : Shard → List ℕ → Mark
mark_at shard id = entry_mark (get_by_text shard.entries id)

-- the shard keeps these claims: of each message-id it has the claim, but for article and stage
pub record Keeps (shard : Shard) (claims : List ℕ → Claim) : Type 0 where
  pub agrees : (id : List ℕ) → mark_at shard id ≡ mark_of (claims id)
