-- What is told of the text of a token (docs/PROTOCOL.md, Program; docs/FORMATS.md, Tokens).
use Rattle.std.specs.Prelude.{◌≡◌, ℕ, List, ◌++◌, codes, decimal, Option, Result, Ok, Err}
use Rattle.std.specs.Io.KnownBytes.{Appends, Keeps}
use Rattle.news_terms.specs.Token.{Token, IsToken, token_text}
use Rattle.cyc_token.specs.Faults.{HasOtherLength, LacksMarks, HasOtherDigit, HasLowerCase}
use Rattle.cyc_token.specs.declared.text.TokenError.{TokenError}
use Rattle.cyc_token.specs.declared.text.TokenError.TheVariants as errors
use Rattle.relay_report.specs.Written.{GainsFront}
use Rattle.relay_command.specs.declared.token.TokenFault.{TokenFault}
use Rattle.relay_command.specs.declared.token.TokenFault.TheVariants.{Length, Marks, Digit}
use Rattle.relay_command.specs.declared.token.TokenFault.TheVariants.{LowerCase, Unwritten}

-- the parts of a token in one line: `class 1 buffer 0 cycle 0 first 0 length 164`
abbrev pub parts_line : Token → List ℕ
parts_line t =
    codes "class " ++ decimal t.class
    ++ codes " buffer " ++ decimal t.buffer
    ++ codes " cycle " ++ decimal t.cycle
    ++ codes " first " ++ decimal t.first
    ++ codes " length " ++ decimal t.length
    ++ codes "\n"

-- the fault that the text of a token has, as it is told
abbrev pub fault_view : TokenError → TokenFault
fault_view errors.Length = Length
fault_view errors.Marks = Marks
fault_view errors.Digit = Digit
fault_view errors.LowerCase = LowerCase

-- the text of a fault, without the line's end
abbrev pub fault_text : TokenFault → List ℕ
fault_text Length = codes "token: 1 Length"
fault_text Marks = codes "token: 2 Marks"
fault_text Digit = codes "token: 3 Digit"
fault_text LowerCase = codes "token: 4 LowerCase"
fault_text Unwritten = codes "stdout: unwritten"

-- The text is a token's, and the line of its parts was written.
pub record Told (text : List ℕ) (before after : Option (List ℕ)) : Type 0 where
  pub token : Token
  pub fits : IsToken token
  pub spelled : text ≡ token_text token
  pub written : Appends before after (parts_line token)

-- the answer is that the parts were written, or the first fault of the text, and then nothing was
-- written; or the text is a token's and the writer failed, with a front of its line
abbrev pub TellGives : Result (Unit {0}) TokenFault → List ℕ → Option (List ℕ)
    → Option (List ℕ) → Type 0
TellGives (Ok done) text before after = Told text before after
TellGives (Err Length) text before after = HasOtherLength text × Keeps before after
TellGives (Err Marks) text before after = LacksMarks text × Keeps before after
TellGives (Err Digit) text before after = HasOtherDigit text × Keeps before after
TellGives (Err LowerCase) text before after = HasLowerCase text × Keeps before after
TellGives (Err Unwritten) text before after =
    (token : Token) × IsToken token × (text ≡ token_text token)
    × GainsFront (parts_line token) before after
