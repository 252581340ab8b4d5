-- The names of jobs.
use Rattle.std.specs.Prelude.{ℕ, List}

-- what names a job: its end, its number among those of the end, and its message-id
pub record Name : Type 0 where
  pub end : ℕ
  pub number : ℕ
  pub id : List ℕ
