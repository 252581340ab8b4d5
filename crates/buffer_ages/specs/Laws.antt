-- What follows from the definitions of marks and of their text.
use Rattle.std.specs.Prelude.{◌≡◌, ℕ, ◌<◌, ◌≤◌, ◌^◌, ◌&&◌, Bool, true, false, All, IsTrue}
use Rattle.std.specs.Prelude.{List, ◌∷◌, [], ◌++◌, Option, Some, None, bytes_eq, length}
use Rattle.relay_names.specs.Text.{is_word}
use Rattle.buffer_ages.specs.Marks.{most_marks}
use Rattle.buffer_ages.specs.Text.{BufferAges, may_follow}
use Rattle.buffer_ages.specs.declared.marks.Mark.{Mark}

-- The moment is that of a mark past a place, and of the marks before it, of which there is one,
-- none is past it.
pub record IsSince (marks : List Mark) (place moment : ℕ) : Type 0 where
  pub first : Mark
  pub earlier : List Mark
  pub mark : Mark
  pub later : List Mark
  pub all : marks ≡ (first ∷ earlier) ++ mark ∷ later
  pub unpast : All (λ other. other.front ≤ place) (first ∷ earlier)
  pub past : place < mark.front
  pub told : mark.moment ≡ moment

-- each mark may follow the one before it, the first this one
abbrev pub each_follows : Option Mark → List Mark → Bool
each_follows last [] = true
each_follows last (mark ∷ marks) = may_follow last mark && each_follows (Some mark) marks

-- The numbers of a mark can be written.
pub record IsInRange (mark : Mark) : Type 0 where
  pub front : mark.front < 2 ^ 64
  pub moment : mark.moment < 2 ^ 64

-- The name of a buffer and the numbers of its marks can be written so that they are read again.
pub record IsWritable (ages : BufferAges) : Type 0 where
  pub name : IsTrue (is_word ages.name)
  pub marks : All IsInRange ages.marks

-- The marks are as a buffer has them: each goes on from the one before, and they aren't too many.
pub record AreInOrder (marks : List Mark) : Type 0 where
  pub ascending : IsTrue (each_follows None marks)
  pub few : length marks ≤ most_marks

-- a buffer has another name
abbrev pub IsNamedOther : (name : List ℕ) → BufferAges → Type 0
IsNamedOther name ages = bytes_eq ages.name name ≡ false
