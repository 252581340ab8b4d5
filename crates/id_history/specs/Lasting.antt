-- What outlives a stop of what shards keep: the claims of the message-ids that are stored or were
-- refused (docs/PROTOCOL.md, Clean stop and start).
use Rattle.std.specs.Prelude.{◌≡◌, ◌≢◌, ℕ, List, [], ◌∷◌, ◌++◌, true, map, Option, None, Some}
use Rattle.std.specs.List.{AllByRecursion, IsDistinct}
use Rattle.std.specs.Set.{is_member}
use Rattle.std.specs.Str.{bytes_eq}
use Rattle.id_history.specs.History.{KeptId, Rises}
use Rattle.news_terms.specs.Token.{Token}
use Rattle.relay_model.specs.Claims.{Claim, Unknown, Offered, Storing, Stored, Refused}
use Rattle.relay_model.specs.State.{put_id}

-- what is left of a claim: nothing where the id is only offered or is being stored
abbrev pub lasting : Claim → Claim
lasting Unknown = Unknown
lasting (Offered session since) = Unknown
lasting (Storing session article stage) = Unknown
lasting (Stored token moment) = Stored token moment
lasting (Refused moment) = Refused moment

-- an id is stored under this token, or was refused, since this moment
abbrev pub claim_since : Option Token → ℕ → Claim
claim_since None moment = Refused moment
claim_since (Some token) moment = Stored token moment

-- the claim of an id that is remembered
abbrev pub claim_of_kept : KeptId → Claim
claim_of_kept one = claim_since one.token one.moment

-- the ids that are remembered
abbrev pub ids_of : List KeptId → List (List ℕ)
ids_of entries = map (λ (one : KeptId). one.id) entries

-- they are the ids of which something is left, each once, with what is left of its claim
pub record HasLasting (entries : List KeptId) (claims : List ℕ → Claim) : Type 0 where
  pub once : IsDistinct bytes_eq (ids_of entries)
  pub each : AllByRecursion (λ (one : KeptId). claim_of_kept one ≡ lasting (claims one.id)) entries
  pub whole : (id : List ℕ) → lasting (claims id) ≢ Unknown
      → is_member bytes_eq (ids_of entries) id ≡ true

-- the same, rising by their octets
pub record AreLasting (entries : List KeptId) (claims : List ℕ → Claim) : Type 0 where
  pub rises : Rises entries
  pub each : AllByRecursion (λ (one : KeptId). claim_of_kept one ≡ lasting (claims one.id)) entries
  pub whole : (id : List ℕ) → lasting (claims id) ≢ Unknown
      → is_member bytes_eq (ids_of entries) id ≡ true

-- the list gains those of which something is left
pub record GathersLasting (before after : List KeptId) (claims : List ℕ → Claim) : Type 0 where
  pub more : List KeptId
  pub is : after ≡ before ++ more
  pub are : HasLasting more claims

-- the claims once each of these was put, in turn
abbrev pub put_all : (List ℕ → Claim) → List KeptId → List ℕ → Claim
put_all claims [] = claims
put_all claims (one ∷ others) = put_all (put_id claims one.id (claim_of_kept one)) others
