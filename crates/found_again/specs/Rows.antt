-- Worked examples of an order, and what they aren't.
use Rattle.std.specs.Prelude.{ℕ, zero, suc, List, [], ◌∷◌, ◌++◌, map, take, drop, flat_map}
use Rattle.found_again.specs.Dealing.{longest}

-- three buffers, whose items are numbered as they came; the second has none
abbrev pub three_buffers : List (List ℕ)
three_buffers = (1 ∷ 3 ∷ 5 ∷ []) ∷ [] ∷ (2 ∷ 4 ∷ []) ∷ []

-- so many rounds from the fronts: the first of each, and then what comes after
abbrev pub rounds_from_fronts : ℕ → List (List ℕ) → List ℕ
rounds_from_fronts zero lists = []
rounds_from_fronts (suc n) lists =
    flat_map (take 1) lists ++ rounds_from_fronts n (map (drop 1) lists)

-- dealt from the fronts, as dealing isn't: the newest of the longest list would come last alone
abbrev pub dealt_from_fronts : List (List ℕ) → List ℕ
dealt_from_fronts lists = rounds_from_fronts (longest lists) lists
