-- Worked marks and texts of them (docs/FORMATS.md, Ages file).
use Rattle.std.specs.Prelude.{ℕ, List, [], ◌∷◌, ◌++◌, codes}
use Rattle.buffer_ages.specs.Text.{BufferAges}
use Rattle.buffer_ages.specs.declared.marks.Mark.{Mark}

-- the front was here at this moment
abbrev pub mark_at : (front moment : ℕ) → Mark
mark_at front moment = record { front = front; moment = moment }

-- marks of a buffer of 640 blocks: empty, then one for each tenth of it
abbrev pub own_marks : List Mark
own_marks =
    mark_at 0 1000 ∷ mark_at 4 1060 ∷ mark_at 70 1120 ∷ mark_at 140 1180 ∷ mark_at 600 1240 ∷ []

-- two buffers
abbrev pub own_ages : List BufferAges
own_ages =
    record { name = codes "A"; marks = mark_at 0 1000 ∷ mark_at 70 1120 ∷ [] }
    ∷ record { name = codes "B"; marks = mark_at 5 1060 ∷ [] } ∷ []

-- and their text
abbrev pub own_text : List ℕ
own_text = codes "A 0 1000\n" ++ codes "A 70 1120\n" ++ codes "B 5 1060\n"

-- the names of both
abbrev pub own_names : List (List ℕ)
own_names = codes "A" ∷ codes "B" ∷ []

-- the same among lines that don't fit: of another buffer, a front that falls, a moment that falls,
-- a word too few or too many, no number, one of 2^64, an empty line, another order of the buffers
abbrev pub loose_text : List ℕ
loose_text =
    codes "B 5 1060\r\n"
    ++ codes "C 6 1060\n"
    ++ codes "A 0 1000\n"
    ++ codes "A 0 1010\n"
    ++ codes "A 9 999\n"
    ++ codes "A 10\n"
    ++ codes "A 10 1010 1\n"
    ++ codes "A x 1010\n"
    ++ codes "A 18446744073709551616 1010\n"
    ++ codes "\n"
    ++ codes "  A  070 1120\n"
    ++ codes "A"
