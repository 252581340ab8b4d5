-- What a relay began with: the text of the history of its last life (docs/FORMATS.md, History
-- file), or none.
use Rattle.std.specs.Prelude.{◌≡◌, ℕ, List, Some, slice_get}
use Rattle.news_terms.specs.Token.{Token}
use Rattle.id_history.specs.History.{Fits, Kept, KeptId, history_octets}
use Rattle.id_history.specs.Mark.{Stored}
use Rattle.id_history.specs.Shard.{mark_at}
use Rattle.id_history.specs.declared.claims.Shard.{Shard}
use Rattle.relay_model.specs.Run.{shard_of}

-- a message-id that is stored under this token since this moment, as a history has it
abbrev pub kept_as : (id : List ℕ) → Token → (moment : ℕ) → KeptId
kept_as id token moment = record { id = id; token = Some token; moment = moment }

-- The text is that of a history in which the message-id is stored under this token. An empty text
-- is of none, so in it nothing is stored.
pub record IsStoredIn (text id : List ℕ) (token : Token) : Type 0 where
  pub history : Kept
  pub fits : Fits history
  pub text_is : text ≡ history_octets history
  pub moment : ℕ
  pub place : ℕ
  pub there : slice_get history.ids place ≡ Some (kept_as id token moment)

-- the shard of this number has each of its ids that the text has as stored, under the same token
abbrev pub Takes : (text : List ℕ) → (number : ℕ) → Shard → Type 0
Takes text number shard =
    (id : List ℕ) (token : Token) → IsStoredIn text id token → shard_of id ≡ number
    → (moment : ℕ) × (mark_at shard id ≡ Stored token moment)

-- so does each of these shards, that of the number of its place
abbrev pub TakeAll : (text : List ℕ) → List Shard → Type 0
TakeAll text shards =
    (k : ℕ) (shard : Shard) → slice_get shards k ≡ Some shard → Takes text k shard
