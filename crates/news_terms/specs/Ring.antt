-- The ring of a feed: the last tokens of its list, and how they are taken.
use Rattle.std.specs.Prelude.{ℕ, ◌+◌, ◌-◌, List, ◌∷◌, [], ◌++◌, length, take, drop, max, min}
use Rattle.std.specs.List.{enumerate_from}

-- a feed: the list of all that it gained, and how many of them were taken or passed over
-- (docs/PROTOCOL.md, Rings)
pub record Feed (A : Type 0) : Type 0 where
  pub gained : List A
  pub passed : ℕ

-- the feed after it gained one more (docs/PROTOCOL.md, Rings)
abbrev pub with_gained : {A : Type 0} → A → Feed A → Feed A
with_gained token feed = record feed { gained = feed.gained ++ token ∷ [] }

-- the last of a list, at most so many (docs/PROTOCOL.md, Rings)
abbrev pub last_of : {A : Type 0} → (capacity : ℕ) → List A → List A
last_of capacity items = drop (length items - capacity) items

-- what a feed's ring holds: the last of its list that were not taken, at most so many
-- (docs/PROTOCOL.md, Rings)
abbrev pub ring : {A : Type 0} → (capacity : ℕ) → Feed A → List A
ring capacity feed = last_of capacity (drop feed.passed feed.gained)

-- how many of the list are taken or have been overwritten (docs/PROTOCOL.md, Rings)
abbrev pub passed_now : {A : Type 0} → (capacity : ℕ) → Feed A → ℕ
passed_now capacity feed = max feed.passed (length feed.gained - capacity)

-- how many were overwritten untaken since the last take (docs/PROTOCOL.md, Rings)
abbrev pub missed : {A : Type 0} → (capacity : ℕ) → Feed A → ℕ
missed capacity feed = passed_now capacity feed - feed.passed

-- the next of the list, at most so many, each with its number in the list, which counts from 1
-- (docs/PROTOCOL.md, Rings)
abbrev pub taken_items : {A : Type 0} → (capacity n : ℕ) → Feed A → List (ℕ × A)
taken_items capacity n feed =
    enumerate_from (passed_now capacity feed + 1)
    (take n (drop (passed_now capacity feed) feed.gained))

-- the feed after a take of at most so many (docs/PROTOCOL.md, Rings)
abbrev pub after_take : {A : Type 0} → (capacity n : ℕ) → Feed A → Feed A
after_take capacity n feed =
    record feed { passed = min (passed_now capacity feed + n) (length feed.gained) }
