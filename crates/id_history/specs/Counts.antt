-- How many message-ids are known (docs/PROTOCOL.md, Claims), a number for each kind of claim.
use Rattle.std.specs.Prelude.{◌≡◌, ◌≤◌, ℕ, Bool, true, false, List}
use Rattle.std.specs.List.{IsDistinct, count_by}
use Rattle.std.specs.Set.{is_member}
use Rattle.std.specs.Str.{bytes_eq}
use Rattle.relay_model.specs.Claims.{Claim, Unknown, Offered, Storing, Stored, Refused, is_storing}
use Rattle.id_history.specs.declared.counts.Counts.{Counts}

-- something is known of the id
abbrev pub is_known : Claim → Bool
is_known Unknown = false
is_known (Offered session since) = true
is_known (Storing session article stage) = true
is_known (Stored token moment) = true
is_known (Refused moment) = true

-- a session was told to send the article of the id
abbrev pub is_offered : Claim → Bool
is_offered Unknown = false
is_offered (Offered session since) = true
is_offered (Storing session article stage) = false
is_offered (Stored token moment) = false
is_offered (Refused moment) = false

-- the article of the id was stored
abbrev pub is_stored : Claim → Bool
is_stored Unknown = false
is_stored (Offered session since) = false
is_stored (Storing session article stage) = false
is_stored (Stored token moment) = true
is_stored (Refused moment) = false

-- an article of the id was refused
abbrev pub is_refused : Claim → Bool
is_refused Unknown = false
is_refused (Offered session since) = false
is_refused (Storing session article stage) = false
is_refused (Stored token moment) = false
is_refused (Refused moment) = true

-- each count is the number for its kind, where `number` says how many claims pass a test
pub record Numbers (counts : Counts) (number : (Claim → Bool) → ℕ) : Type 0 where
  pub offered : counts.offered ≡ number is_offered
  pub storing : counts.storing ≡ number is_storing
  pub stored : counts.stored ≡ number is_stored
  pub refused : counts.refused ≡ number is_refused

-- the counts are those of these claims
pub record CountsOf (claims : List ℕ → Claim) (counts : Counts) : Type 0 where
  -- the message-ids of which something is known, each once
  pub ids : List (List ℕ)
  pub once : IsDistinct bytes_eq ids
  pub known : (id : List ℕ) → is_member bytes_eq ids id ≡ is_known (claims id)
  -- of each kind as many as there are among them
  pub numbers : Numbers counts (λ test. count_by (λ id. test (claims id)) ids)

-- no count is more than this
pub record AtMost (most : ℕ) (counts : Counts) : Type 0 where
  pub offered : counts.offered ≤ most
  pub storing : counts.storing ≤ most
  pub stored : counts.stored ≤ most
  pub refused : counts.refused ≤ most
