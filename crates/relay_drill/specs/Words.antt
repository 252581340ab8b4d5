-- The words of a script's line (docs/FORMATS.md, Drill scripts).
use Rattle.std.specs.Prelude.{ℕ, ◌==◌, nat_le, nat_lt, List, length, bytes_eq, Option, None, Some}
use Rattle.std.specs.Prelude.{if◌then◌else◌}
use Rattle.std.specs.List.{position_or_len}
use Rattle.hex.specs.Hex.{decode_of}
use Rattle.line_words.specs.Numbers as numbers
use Rattle.line_words.specs.Parts.{parts}
use Rattle.std.specs.Result.{result_ok}

-- the words of a line, between single spaces
abbrev pub words : List ℕ → List (List ℕ)
words line = parts 32 line

-- the last number that a script may name
abbrev pub last_number : ℕ
last_number = 9223372036854775807

-- the number that the word is by 1 to 19 decimal digits, where it is in this range
abbrev pub number_within : (least most : ℕ) → (word : List ℕ) → Option ℕ
number_within least most word =
    if nat_le (length word) 19 then numbers.number_within least most word else None

-- the number that the word is
abbrev pub number : List ℕ → Option ℕ
number word = number_within 0 last_number word

-- the octets that the word writes by pairs of hexadecimal digits, at least one pair
abbrev pub octets_of : List ℕ → Option (List ℕ)
octets_of word = if length word == 0 then None else result_ok (decode_of word)

-- the number of what has this name: its place among these names
abbrev pub place_of : (names : List (List ℕ)) → (name : List ℕ) → Option ℕ
place_of names name =
    let place = position_or_len (bytes_eq name) names in
    if nat_lt place (length names) then Some place else None
