-- How many calls there were, and how many of them failed, after one more.
use Rattle.std.proofs.Common.{◌≡◌, ◌+◌, ◌++◌, ℕ, List, [], ◌∷◌, Bool, true, false, refl, ap}
use Rattle.file_blocks.specs.Host.{failed_in}

-- a call that failed is one more of those
pub one_failed : (calls : List (ℕ × Bool)) (place : ℕ)
    → failed_in (calls ++ (place, true) ∷ []) ≡ failed_in calls + 1
unfolding failed_in
one_failed [] place = refl
one_failed ((other, true) ∷ calls) place = ap (λ n. n + 1) (one_failed calls place)
one_failed ((other, false) ∷ calls) place = one_failed calls place

-- a call that didn't fail is none of those
pub none_failed : (calls : List (ℕ × Bool)) (place : ℕ)
    → failed_in (calls ++ (place, false) ∷ []) ≡ failed_in calls
unfolding failed_in
none_failed [] place = refl
none_failed ((other, true) ∷ calls) place = ap (λ n. n + 1) (none_failed calls place)
none_failed ((other, false) ∷ calls) place = none_failed calls place
