-- Why a text is no token's (docs/FORMATS.md, Tokens).
use Rattle.std.specs.Prelude.{◌≡◌, ◌≢◌, ℕ, ◌==◌, ◌&&◌, true, List, length, take, drop, slice_index}
use Rattle.std.specs.Prelude.{Option, None, Some, if◌then◌else◌}
use Rattle.std.specs.Char.{is_ascii_lowercase}
use Rattle.std.specs.List.{AllPass, Any, list_all, list_any}
use Rattle.hex.specs.Hex.{is_hex_digit}
use Rattle.cyc_token.specs.declared.text.TokenError.{TokenError}
use Rattle.cyc_token.specs.declared.text.TokenError.TheVariants.{Length, Marks, Digit, LowerCase}

-- the octets between the marks
abbrev pub digits_of : List ℕ → List ℕ
digits_of text = take 28 (drop 1 text)

-- `@` first and last
abbrev pub HasMarks : List ℕ → Type 0
HasMarks text = (slice_index text 0 ≡ 64) × (slice_index text 29 ≡ 64)

-- not 30 octets
pub record HasOtherLength (text : List ℕ) : Type 0 where
  pub length : length text ≢ 30

-- 30 octets, but not `@` first and last
pub record LacksMarks (text : List ℕ) : Type 0 where
  pub length : length text ≡ 30
  pub marks : ¬ HasMarks text

-- the length and the marks are right, but some octet between them is no hexadecimal digit
pub record HasOtherDigit (text : List ℕ) : Type 0 where
  pub length : length text ≡ 30
  pub marks : HasMarks text
  pub digits : ¬ AllPass is_hex_digit (digits_of text)

-- all is right but that some digit is a lower case letter
pub record HasLowerCase (text : List ℕ) : Type 0 where
  pub length : length text ≡ 30
  pub marks : HasMarks text
  pub digits : AllPass is_hex_digit (digits_of text)
  pub lower : Any (λ c. is_ascii_lowercase c ≡ true) (digits_of text)

-- the first reason in that order why a text is no token's, or None where it is one
abbrev pub token_fault : List ℕ → Option TokenError
token_fault text =
    if length text == 30 then
    (if slice_index text 0 == 64 && slice_index text 29 == 64 then
    (if list_all is_hex_digit (digits_of text) then
    (if list_any is_ascii_lowercase (digits_of text) then Some LowerCase else None)
    else Some Digit)
    else Some Marks)
    else Some Length
