-- Numbers that are given in words.
use Rattle.std.specs.Prelude.{ℕ, Option, None, Some, if◌then◌else◌}
use Rattle.std.specs.Str.Parse.{digits_value, without_leading_plus}
use Rattle.clap.specs.ValueTests.{is_unsigned_in}
use Rattle.clap.specs.Words.{Text}

-- the number of a text that clap takes for a number of 32 bits
abbrev pub number_of : Text → Option ℕ
number_of text = if is_unsigned_in 0 4294967295 text
    then Some (digits_value 10 (without_leading_plus text)) else None
