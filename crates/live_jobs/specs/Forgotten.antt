-- Which article was given up (docs/PROTOCOL.md, Store).
use Rattle.std.specs.Prelude.{◌≡◌, ℕ, List}
use Rattle.live_jobs.specs.declared.forgetting.Forgotten.{Forgotten}

-- what was given up is the article of this message-id, for this session
pub record IsForgotten (message_id : List ℕ) (number : ℕ) (forgotten : Forgotten) : Type 0 where
  pub id : forgotten.id.value ≡ message_id
  pub session : forgotten.session.value ≡ number
