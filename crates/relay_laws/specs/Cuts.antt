-- What it is to cut a list of sizes into longest runs (the principle of INN's CNFS;
-- docs/PROTOCOL.md, Sizes and places): said of the whole list, where `head_after` goes from size to
-- size.
use Rattle.std.specs.Prelude.{◌≡◌, ℕ, ◌+◌, ◌≤◌, ◌<◌, List, [], ◌∷◌, sum}
use Rattle.std.specs.List.{concat}

-- a run of these sizes, which has so many blocks, has no room for the first size of the next one
abbrev pub HasNoRoomFor : (room : ℕ) → (run next : List ℕ) → Type 0
HasNoRoomFor room run [] = ⊥
HasNoRoomFor room run (size ∷ rest) = room < sum run + size

-- from run r on these runs are as long as can be: the sum of each is at most its room, and none but
-- the last has room for the first size of the next
abbrev pub AreLongest : (room : ℕ → ℕ) → (r : ℕ) → List (List ℕ) → Type 0
AreLongest room r [] = ⊥
AreLongest room r (run ∷ []) = sum run ≤ room r
AreLongest room r (run ∷ next ∷ more) =
    (sum run ≤ room r) × HasNoRoomFor (room r) run next × AreLongest room (r + 1) (next ∷ more)

-- the list of sizes is cut into these longest runs
pub record IsCutInto (room : ℕ → ℕ) (sizes : List ℕ) (runs : List (List ℕ)) : Type 0 where
  pub whole : concat runs ≡ sizes
  pub longest : AreLongest room 0 runs
