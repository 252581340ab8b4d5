-- Bars: boxes in which a second one is as wide as one number is of another.
use Rattle.std.specs.Prelude.{ℕ, ◌*◌, ◌/◌, ◌-◌, ◌^◌, ◌==◌, nat_le, List, [], ◌++◌, codes, decimal}
use Rattle.std.specs.Prelude.{option_and_then, slice_get, Option, None, Some, if◌then◌else◌}
use Rattle.line_words.specs.Numbers.{number_within}
use Rattle.relay_metrics.specs.Lines.{Line}

-- how many hundredths of a whole a part is, cut to a number, and no more than all of them; of a
-- whole that is 0 there are none
abbrev pub hundredths : (part whole : ℕ) → Option ℕ
hundredths part whole =
    if whole == 0 then None
    else if nat_le whole part then Some 100
    else Some (part * 100 / whole)

-- the number at this place of a line, where it is below 2^64
abbrev pub number_at : Line → (place : ℕ) → Option ℕ
number_at line place =
    option_and_then (number_within 0 (2 ^ 64 - 1)) (slice_get line.numbers place)

-- the hundredths that one number is of another, where both are there
abbrev pub share_of : (part whole : Option ℕ) → Option ℕ
share_of part whole =
    option_and_then (λ all. option_and_then (λ some. hundredths some all) part) whole

-- a box, and in it one that is so many hundredths as wide
abbrev pub box_text : (hundredths : ℕ) → List ℕ
box_text hundredths =
    codes "<div class=\"bar\"><div style=\"width:" ++ decimal hundredths
    ++ codes "%\"></div></div>\n"

-- a bar of so many hundredths, where there are some
abbrev pub bar_text : Option ℕ → List ℕ
bar_text None = []
bar_text (Some hundredths) = box_text hundredths
