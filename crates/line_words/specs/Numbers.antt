-- Decimal numbers, as lines write them.
use Rattle.std.specs.Prelude.{ℕ, ◌&&◌, not, nat_le, Bool, List, Option, None, Some, if◌then◌else◌}
use Rattle.std.specs.Str.{all_ascii_digits}
use Rattle.std.specs.Str.Parse.{digits_value}
use Rattle.news_terms.specs.Article.{is_empty}

-- a number as it is written: decimal digits, one or more (docs/FORMATS.md, Configuration)
abbrev pub is_numeral : List ℕ → Bool
is_numeral word = not (is_empty word) && all_ascii_digits word

-- the number that the word is, where it is in this range (docs/FORMATS.md, Configuration)
abbrev pub number_within : (least most : ℕ) → (word : List ℕ) → Option ℕ
number_within least most word =
    if is_numeral word && nat_le least (digits_value 10 word) && nat_le (digits_value 10 word) most
    then Some (digits_value 10 word)
    else None
