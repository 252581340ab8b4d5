-- Which article was settled and posted (docs/PROTOCOL.md, Store).
use Rattle.std.specs.Prelude.{◌≡◌, ℕ, List}
use Rattle.cyc_token.specs.declared.Token.{Token}
use Rattle.live_jobs.specs.declared.desk.both.Posted.{Posted}

-- what was settled and posted is the article of this message-id, for this session, under this
-- token, and to these permitted feeds
pub record IsPostOf (message_id : List ℕ) (number : ℕ) (place : Token) (feeds : List ℕ)
    (posted : Posted)
    : Type 0 where
  pub id : posted.id.value ≡ message_id
  pub session : posted.session.value ≡ number
  pub token : posted.token.value ≡ place
  pub permitted : posted.permitted.value.items ≡ feeds
