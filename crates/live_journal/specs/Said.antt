-- What was said to a journal (docs/PROTOCOL.md, Threads).
use Rattle.std.specs.Prelude.{◌≡◌, ℕ, List, Option}
use Rattle.cyc_token.specs.declared.Token.{Token}
use Rattle.live_journal.specs.declared.batch.Said.{Said}

-- what was said is that the article of this message-id was stored under this token, or was refused
-- where there is none, at this moment
pub record IsSaid (message_id : List ℕ) (place : Option Token) (since : ℕ) (said : Said)
    : Type 0 where
  pub id : said.id.value ≡ message_id
  pub token : said.token.value ≡ place
  pub moment : said.moment.value ≡ since
