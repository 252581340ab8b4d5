-- What a ring holds of a list: the laws of `news_terms` (rings), for items of every type.
use Rattle.std.proofs.Common.{◌≡◌, ◌≤◌, ◌+◌, ◌-◌, ◌++◌, ◌∷◌, [], ℕ, length, take, drop, arith}
use Rattle.std.proofs.Common.{min}
use Rattle.std.specs.List.{enumerate_from}
use Rattle.std.proofs.lemmas.Grind.{common_steps}
use Rattle.news_terms.specs.Ring.{Feed, ring, last_of, passed_now, taken_items}
use Rattle.news_terms.specs.Ring.{after_take, with_gained}

-- a ring is the list without what was taken or overwritten
pub ring-drop : {A : Type 0} (size : ℕ) (feed : Feed A)
    → ring size feed ≡ drop (passed_now size feed) feed.gained
ring-drop size feed = grind (arith, common_steps)

-- a ring after a token was gained
pub ring-gained : {A : Type 0} (size : ℕ) (feed : Feed A) (token : A)
    → feed.passed ≤ length feed.gained
    → ring size (with_gained token feed) ≡ last_of size (ring size feed ++ token ∷ [])
ring-gained size feed token within = grind (arith, common_steps)

-- a ring after a take
pub ring-taken : {A : Type 0} (size n : ℕ) (feed : Feed A) → feed.passed ≤ length feed.gained
    → ring size (after_take size n feed) ≡ drop n (ring size feed)
ring-taken size n feed within = grind (arith, common_steps)

-- what a take gives, of the ring
pub items-ring : {A : Type 0} (size n : ℕ) (feed : Feed A) → taken_items size n feed
    ≡ enumerate_from (passed_now size feed + 1) (take n (ring size feed))
items-ring size n feed = grind (arith, common_steps)

-- what waits in a ring
pub length-ring : {A : Type 0} (size : ℕ) (feed : Feed A) → feed.passed ≤ length feed.gained
    → length (ring size feed) ≡ min size (length feed.gained - feed.passed)
length-ring size feed within = grind (arith, common_steps)

-- where the ring begins in the list
pub passed-ring : {A : Type 0} (size : ℕ) (feed : Feed A) → feed.passed ≤ length feed.gained
    → passed_now size feed ≡ length feed.gained - length (ring size feed)
passed-ring size feed within = grind (arith, common_steps)
