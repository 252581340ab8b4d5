-- What a shard keeps of a claim (docs/PROTOCOL.md, Claims): the article and the stage of what is
-- being stored are with the session and the writer that have it.
use Rattle.std.specs.Prelude.{ℕ, Option, None, Some, []}
use Rattle.news_terms.specs.Token.{Token}
use Rattle.cyc_token.specs.Token.{token_view}
use Rattle.relay_model.specs.Claims.{Accepted, Claim}
use Rattle.relay_model.specs.Claims as claim
use Rattle.id_history.specs.declared.claims.Entry.{Entry}
use Rattle.id_history.specs.declared.claims.Entry.TheVariants as entry

-- a claim without article and stage
pub data Mark : Type 0 where
  Unknown : Mark
  Offered : (session since : ℕ) → Mark
  Storing : (session : ℕ) → Mark
  Stored : (token : Token) (moment : ℕ) → Mark
  Refused : (moment : ℕ) → Mark

-- what is left of a claim without its article and stage
abbrev pub mark_of : Claim → Mark
mark_of claim.Unknown = Unknown
mark_of (claim.Offered session since) = Offered session since
mark_of (claim.Storing session article stage) = Storing session
mark_of (claim.Stored token moment) = Stored token moment
mark_of (claim.Refused moment) = Refused moment

-- an article without a text
abbrev pub no_article : Accepted
no_article = record { class = 0; group = 0; permitted = []; text = [] }

-- a claim of the mark; what is being stored waits for its writer, without a text
abbrev pub claim_of : Mark → Claim
claim_of Unknown = claim.Unknown
claim_of (Offered session since) = claim.Offered session since
claim_of (Storing session) = claim.Storing session no_article claim.Waiting
claim_of (Stored token moment) = claim.Stored token moment
claim_of (Refused moment) = claim.Refused moment

-- what an entry of the map says of its message-id; where there is none, nothing is known
abbrev pub entry_mark : Option Entry → Mark
entry_mark None = Unknown
entry_mark (Some (entry.Offered session since)) = Offered session since
entry_mark (Some (entry.Storing session)) = Storing session
entry_mark (Some (entry.Stored token moment)) = Stored (token_view token) moment
entry_mark (Some (entry.Refused moment)) = Refused moment
