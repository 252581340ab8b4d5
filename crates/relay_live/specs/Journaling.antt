-- What the journal is told of articles (docs/PROTOCOL.md, Threads).
use Rattle.std.specs.Prelude.{◌≡◌, ℕ, List, Bool, true, false, ◌==◌, Option, Some, None}
use Rattle.cyc_token.specs.declared.Token.{Token}
use Rattle.live_jobs.specs.Posted.{IsPostOf}
use Rattle.live_jobs.specs.declared.desk.both.Posted.{Posted}
use Rattle.live_jobs.specs.declared.store_result.StoreResult.{StoreResult}
use Rattle.live_jobs.specs.declared.store_result.StoreResult.TheVariants as store_results
use Rattle.live_journal.specs.Said.{IsSaid}
use Rattle.live_journal.specs.declared.batch.Said.{Said}
use Rattle.live_store.specs.declared.record.StorePremises.{Ghosts}
use Rattle.relay_model.specs.Claims as claims
use Rattle.relay_model.specs.Claims.{Claim, OfferAnswer, Wanted, Later, Seen}

-- the journal was told of the article that was settled and posted: that it was stored, under the
-- same token
pub record SaysPosted (posted : Posted) (said : Said) : Type 0 where
  pub id : List ℕ
  pub session : ℕ
  pub token : Token
  pub permitted : List ℕ
  pub moment : ℕ
  pub post : IsPostOf id session token permitted posted
  pub told : IsSaid id (Some token) moment said

-- where a job is kept, the journal was told of the article that was posted; else of nothing
abbrev pub IsJournaled : {J : Type 0} {g : Ghosts J} → StoreResult J g → Option Said → Type 0
IsJournaled (store_results.Kept receipt posted) (Some said) = SaysPosted posted said
IsJournaled (store_results.Kept receipt posted) None = ⊥
IsJournaled (store_results.Failed fault forgotten) said = said ≡ None
IsJournaled (store_results.Conflict forgotten) said = said ≡ None

-- a refusal by this session marks a message-id: it is unknown, or offered to the session
abbrev pub is_marked_by : ℕ → Claim → Bool
is_marked_by s claims.Unknown = true
is_marked_by s (claims.Offered other since) = other == s
is_marked_by s (claims.Storing other article stage) = false
is_marked_by s (claims.Stored token moment) = false
is_marked_by s (claims.Refused moment) = false

-- the session whose offer is answered so is to send the article
abbrev pub is_wanted : OfferAnswer → Bool
is_wanted Wanted = true
is_wanted Later = false
is_wanted Seen = false
