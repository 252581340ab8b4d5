-- The rule of the book, and what its step tells.
use Rattle.std.specs.Prelude.{ℕ, ◌≡◌, ◌==◌, ◌<◌, true, List, [], ◌∷◌, ◌++◌, length, MatchBool}
use mathlib.Core.List.{IsPrefix}
use Rattle.logbook.specs.Pages.{Cell, Step, View, Book, Named}
use Rattle.post_history.specs.declared.post.Post.{Post}

-- the first word is the length of the history. A book has two words, of which this one leaves the
-- second at 0
pub record IsKept (cells : List Cell) (log : List Post) : Type 0 where
  pub words : cells ≡ (length log, true) ∷ (0, true) ∷ []

-- the word of a book that has its length
abbrev pub head_of : Book → Named
head_of b = record { tracked = true; key = 0; book = b }

-- the post was added to all that had been seen; or the history was longer, and was seen
abbrev pub Adds : Step Post → View Post ℕ → ℕ → View Post ℕ → Type 0
Adds exchange before found after =
    MatchBool (found == exchange.old) (after.0 ≡ before.0 ++ exchange.ask ∷ [])
    (length after.0 ≡ found)

-- the later history begins with the earlier one, and goes on
abbrev pub IsLonger : (earlier later : List Post) → Type 0
IsLonger earlier later = IsPrefix earlier later × (length earlier < length later)
