-- What is left where a history isn't kept.
use Rattle.std.specs.Prelude.{◌≡◌, ◌⊎◌, ◌∷◌, ℕ, List, Option, None, Some}
use Rattle.relay_folder.specs.declared.history_place.HistoryPlace.{Ghosts}

-- what was kept before is kept still, and a power cut leaves what it would have left
pub record IsAsBefore {P : Type 0} (g : Ghosts P) (old new : P) : Type 0 where
  pub kept : g.kept new ≡ g.kept old
  pub lasting : g.lasting new ≡ g.lasting old

-- this is kept, or none, and until the names are flushed a power cut may leave what was kept before
pub record IsUnflushed {P : Type 0} (g : Ghosts P) (text : Option (List ℕ)) (old new : P)
    : Type 0 where
  pub kept : g.kept new ≡ text
  pub lasting : g.lasting new ≡ text ∷ g.lasting old

-- what a text leaves that couldn't be kept: all is as before, or it is kept, and only the names
-- couldn't be flushed
abbrev pub IsNotKept : {P : Type 0} → Ghosts P → (text : List ℕ) → (old new : P) → Type 0
IsNotKept g text old new = IsAsBefore g old new ⊎ IsUnflushed g (Some text) old new

-- what a history leaves that couldn't be taken away for good: all is as before, or it is gone, and
-- only the names couldn't be flushed
abbrev pub IsNotTakenAway : {P : Type 0} → Ghosts P → (old new : P) → Type 0
IsNotTakenAway g old new = IsAsBefore g old new ⊎ IsUnflushed g None old new
