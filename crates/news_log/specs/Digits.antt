-- The month and the day in the digits of a moment. No public contract cites it.
use Rattle.std.specs.Prelude.{ℕ, ◌+◌, ◌-◌, ◌*◌, ◌≤◌, ◌==◌, List, [], get_or, if◌then◌else◌}
use Rattle.std.specs.Prelude.{slice_index}
use Rattle.std.specs.Str.{byte}
use Rattle.news_log.specs.Lines.{month_names}

-- these are the two digits of a month
pub record IsMonth (tens ones : ℕ) : Type 0 where
  pub tens_least : byte "0" ≤ tens
  pub ones_least : byte "0" ≤ ones
  pub ones_most : ones ≤ byte "9"
  pub least : 1 ≤ (tens - byte "0") * 10 + (ones - byte "0")
  pub most : (tens - byte "0") * 10 + (ones - byte "0") ≤ 12

-- the fifth and the sixth digit are those of a month
abbrev pub HasMonth : (digits : List ℕ) → Type 0
HasMonth digits = IsMonth (slice_index digits 4) (slice_index digits 5)

-- the name of the month of these two digits
abbrev pub month_of : (tens ones : ℕ) → List ℕ
month_of tens ones =
    get_or month_names ((tens - byte "0") * 10 + (ones - byte "0") - 1) []

-- a digit, or a space where it is a zero
abbrev pub spaced_digit : ℕ → ℕ
spaced_digit digit = if digit == byte "0" then byte " " else digit
