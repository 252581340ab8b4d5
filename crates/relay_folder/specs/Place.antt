-- What stands beside a history while the next one is written.
use Rattle.std.specs.Prelude.{ℕ, List}

-- what stands beside the text that is kept
pub data Beside : Type 0 where
  -- nothing
  Nothing : Beside
  -- something else than a whole text, as what a write that failed has left
  Left : Beside
  -- this text, which the device may not have yet
  Written : (text : List ℕ) → Beside
  -- this text, and the device has all of it
  Flushed : (text : List ℕ) → Beside
