-- The positions of groups that are found again.
use Rattle.std.proofs.Common.{◌≡◌, ◌∙◌, ℕ, refl, sym, ap, List, length, Option, None, Some}
use Rattle.std.proofs.Common.{slice_get}
use Rattle.block_shelf.specs.Stopping.{ArePositions}
use Rattle.buffer_repair.specs.Remains.{Remains, course_left, courses_left}
use Rattle.news_terms.specs.Places.{Group}

-- it is the turn of the buffer that is told, whatever the group
turn_told : (all : List Remains) (turn : ℕ) (group : Option Group)
    → (course_left all turn group).turn ≡ turn
turn_told all turn None = refl
turn_told all turn (Some group) = refl

-- whose turn it is in each group is its position
pub turn_positions : (groups : List Group) (turns : ℕ → ℕ) (all : List Remains)
    (positions : List ℕ) → length positions ≡ length groups
    → ((h : ℕ) (group : Group) → slice_get groups h ≡ Some group
    → slice_get positions h ≡ Some (turns h))
    → ArePositions groups (courses_left groups turns all) positions
turn_positions groups turns all positions count each = record {
  count = count;
  each = λ h group there.
      each h group there ∙ ap Some (sym (turn_told all (turns h) (slice_get groups h)));
}
