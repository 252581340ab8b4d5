-- In which order the texts of several buffers are thought to have come, the newest last
-- (docs/decisions/found-again.md).
use Rattle.std.specs.Prelude.{◌≡◌, ◌⊎◌, ℕ, zero, suc, ◌-◌, List, [], ◌∷◌, ◌++◌, length, map, max}
use Rattle.std.specs.Prelude.{take, All, ◌≤◌, ◌*◌}
use Rattle.news_terms.specs.Ring.{last_of}

-- the last item of each list that has one; that of the first list is the last of them
abbrev pub lasts : {X : Type 0} → List (List X) → List X
lasts [] = []
lasts (items ∷ others) = lasts others ++ last_of 1 items

-- all but the last
abbrev pub but_last : {X : Type 0} → List X → List X
but_last items = take (length items - 1) items

-- so many rounds from the ends: at the end is the last of each list, before it what so many rounds
-- less give of all that come before
abbrev pub rounds : {X : Type 0} → ℕ → List (List X) → List X
rounds zero lists = []
rounds (suc n) lists = rounds n (map but_last lists) ++ lasts lists

-- how long the longest is
abbrev pub longest : {X : Type 0} → List (List X) → ℕ
longest [] = 0
longest (items ∷ others) = max (length items) (longest others)

-- all items, dealt from the ends: before one stands each that has more after it in its own list
abbrev pub dealt : {X : Type 0} → List (List X) → List X
dealt lists = rounds (longest lists) lists

-- the items are among the others, in their order
abbrev pub IsWithin : {X : Type 0} → List X → List X → Type 0
IsWithin [] others = Unit {0}
IsWithin (x ∷ items) [] = ⊥
IsWithin (x ∷ items) (y ∷ others) =
    ((x ≡ y) × IsWithin items others) ⊎ IsWithin (x ∷ items) others

-- the last so many of each list are at the end, among no more than so many of each
pub record HasNewest {X : Type 0} (k : ℕ) (lists : List (List X)) (all : List X) : Type 0 where
  pub older : List X
  pub newest : List X
  pub is : all ≡ older ++ newest
  pub few : length newest ≤ k * length lists
  pub each : All (λ (items : List X). IsWithin (last_of k items) newest) lists
