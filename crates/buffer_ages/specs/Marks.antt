-- Marks of a buffer: how far its front was at which moment, and what that tells of its articles
-- (docs/FORMATS.md, Ages file).
use Rattle.std.specs.Prelude.{ℕ, ◌-◌, ◌*◌, ◌==◌, ◌&&◌, ◌||◌, nat_le, nat_lt, Bool, true}
use Rattle.std.specs.Prelude.{List, [], ◌∷◌, ◌++◌, drop, filter, length, slice_get}
use Rattle.std.specs.Prelude.{Option, None, Some, if◌then◌else◌}
use Rattle.buffer_ages.specs.declared.marks.Mark.{Mark}

-- how many marks a buffer has at most: one for each 64th of it, and the one before them
abbrev pub most_marks : ℕ
most_marks = 65

-- The oldest place that is live where the front is here: it lies as far behind as the buffer is
-- large. What lies before it is overwritten.
abbrev pub oldest_live : (front blocks : ℕ) → ℕ
oldest_live front blocks = front - blocks

-- the moment of the first of these marks that is past a place
abbrev pub first_past : (place : ℕ) → List Mark → Option ℕ
first_past place [] = None
first_past place (mark ∷ marks) =
    if nat_lt place mark.front then Some mark.moment else first_past place marks

-- the same behind a mark that is not past it; nothing is known of what was there by the first mark
abbrev pub past_behind : (place : ℕ) → List Mark → Option ℕ
past_behind place [] = None
past_behind place (mark ∷ marks) =
    if nat_le mark.front place then first_past place marks else None

-- Since when the oldest article is there that a buffer still has: the moment of the first mark past
-- the oldest live place, where a mark before it is not.
abbrev pub since : List Mark → (front blocks : ℕ) → Option ℕ
since marks front blocks = past_behind (oldest_live front blocks) marks

-- the marks that a front has come to: one past it is of a buffer that was begun anew
abbrev pub behind : (front : ℕ) → List Mark → List Mark
behind front marks = filter (λ mark. nat_le mark.front front) marks

-- A new mark is due after this one where the front is here: it is farther, and either the buffer
-- was empty then, or it has gone on by a 64th of the buffer.
abbrev pub is_due_after : Mark → (front blocks : ℕ) → Bool
is_due_after last front blocks =
    nat_lt last.front front && (last.front == 0 || nat_le blocks ((front - last.front) * 64))

-- a new mark is due after the last one, where there is one
abbrev pub is_due_behind : Option Mark → (front blocks : ℕ) → Bool
is_due_behind None front blocks = true
is_due_behind (Some last) front blocks = is_due_after last front blocks

-- a new mark is due behind these
abbrev pub is_due : List Mark → (front blocks : ℕ) → Bool
is_due marks front blocks = is_due_behind (slice_get marks (length marks - 1)) front blocks

-- so many of the marks, the newest
abbrev pub newest : (most : ℕ) → List Mark → List Mark
newest most marks = drop (length marks - most) marks

-- these marks with a new one behind them: without those of a later moment, and the newest alone
abbrev pub marked : List Mark → Mark → List Mark
marked marks mark =
    newest (most_marks - 1) (filter (λ other. nat_le other.moment mark.moment) marks) ++ mark ∷ []

-- the marks that a front has come to, with a new one where it is due
abbrev pub marked_where_due : List Mark → (front blocks moment : ℕ) → List Mark
marked_where_due marks front blocks moment =
    if is_due marks front blocks
    then marked marks (record { front = front; moment = moment }) else marks

-- The marks of a buffer of so many blocks whose front is here at this moment, where it had these.
abbrev pub noted : List Mark → (front blocks moment : ℕ) → List Mark
noted marks front blocks moment = marked_where_due (behind front marks) front blocks moment
