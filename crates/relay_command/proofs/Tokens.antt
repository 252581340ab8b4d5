-- What is told of a text that is no token's.
use Rattle.std.proofs.Common.{◌≡◌, ℕ, List, Option, Result, Ok, Err, refl}
use Rattle.std.specs.Prelude.{IsErrAnd, IsErrOf}
use Rattle.cyc_token.specs.Faults.{HasOtherLength, LacksMarks, HasOtherDigit, HasLowerCase}
use Rattle.cyc_token.specs.declared.Token.{Token}
use Rattle.cyc_token.specs.declared.text.TokenError.{TokenError}
use Rattle.cyc_token.specs.declared.text.TokenError.TheVariants as errors
use Rattle.relay_command.specs.Tell.{TellGives, fault_view}
use Rattle.relay_command.specs.declared.token.TokenFault.{TokenFault}
use Rattle.relay_command.proofs.Checks.{keeps_same}

-- the one error is the other, as a reader of tokens answers it
abbrev IsErr : TokenError → TokenError → Type 0
IsErr error other = IsErrOf {T = Token} {E = TokenError} (Err error) other

-- Its fault is told, and nothing is written.
pub untold : (result : Result (Unit {0}) TokenFault) (error : TokenError) (text : List ℕ)
    (held : Option (List ℕ)) → IsErrAnd result (λ fault. fault ≡ fault_view error)
    → (IsErr error errors.Length → HasOtherLength text)
    → (IsErr error errors.Marks → LacksMarks text)
    → (IsErr error errors.Digit → HasOtherDigit text)
    → (IsErr error errors.LowerCase → HasLowerCase text) → TellGives result text held held
untold (Ok done) error text held is length marks digit lower = absurd is
untold (Err fault) errors.Length text held is length marks digit lower =
    rw is (length refl, keeps_same held)
untold (Err fault) errors.Marks text held is length marks digit lower =
    rw is (marks refl, keeps_same held)
untold (Err fault) errors.Digit text held is length marks digit lower =
    rw is (digit refl, keeps_same held)
untold (Err fault) errors.LowerCase text held is length marks digit lower =
    rw is (lower refl, keeps_same held)
