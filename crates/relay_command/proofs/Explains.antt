-- What is told where a configuration isn't explained.
use Rattle.std.proofs.Common.{inl, inr, ℕ, List, Option, Err}
use Rattle.relay_command.specs.Check.{HasError}
use Rattle.relay_command.specs.Explain.{ExplainGives, IsUntold}
use Rattle.relay_command.specs.Questions.{Asking}
use Rattle.relay_command.specs.declared.load.CheckError.{CheckError}
use Rattle.relay_command.specs.declared.load.CheckError.TheVariants.{Memory, Unreadable, Faulty}
use Rattle.relay_command.specs.declared.load.CheckError.TheVariants.{Unwritten}
use Rattle.relay_command.proofs.Checks.{keeps_same, never_unwritten}

-- Where a configuration has an error, that is told and nothing is written.
error_is_told : (folder : List ℕ) (question : Option Asking) (error : CheckError)
    (held : Option (List ℕ))
    → HasError folder error → ExplainGives (Err error) folder question held held
error_is_told folder question Memory held has = keeps_same held
error_is_told folder question (Unreadable file) held has = (has, keeps_same held)
error_is_told folder question (Faulty file line code name) held has = (has, keeps_same held)
error_is_told folder question Unwritten held has = absurd (never_unwritten folder has)

-- Where it isn't explained, that is told and nothing is written.
pub untold : (folder : List ℕ) (question : Option Asking) (error : CheckError)
    (held : Option (List ℕ))
    → IsUntold folder error → ExplainGives (Err error) folder question held held
untold folder question error held (inl memory) = rw memory (keeps_same held)
untold folder question error held (inr has) = error_is_told folder question error held has
