-- Sums over numbers below one, and over lists, of two functions that differ in one place or go
-- together.
use Rattle.std.proofs.Common.{◌≡◌, ℕ, zero, suc, ◌+◌, ◌*◌, ◌≤◌, ◌<◌, List, [], ◌∷◌, length}
use Rattle.std.proofs.Common.{slice_get, sum_by, Some, ◌⊎◌, inl, inr, refl, ap, arith}
use Rattle.std.proofs.lemmas.Bool.{cases_eq}
use Rattle.std.proofs.lemmas.List.Sums.{sum_by-cons}
use Rattle.std.proofs.lemmas.Option.{same_Some, none-some}
use Rattle.relay_model.specs.Counted.{sum_below}

-- equal terms have equal sums
pub sums_same : (f h : ℕ → ℕ) (n : ℕ) → ((k : ℕ) → k < n → f k ≡ h k)
    → sum_below f n ≡ sum_below h n
sums_same f h zero same = refl
sums_same f h (suc n) same =
    let before : sum_below f n ≡ sum_below h n =
    sums_same f h n (λ k below. same k (omega (arith, below))) in
    let last : f n ≡ h n = same n (omega arith) in
    omega (arith, before, last)

-- no term is larger, nor is the sum
pub sums_ordered : (f h : ℕ → ℕ) (n : ℕ) → ((k : ℕ) → k < n → f k ≤ h k)
    → sum_below f n ≤ sum_below h n
sums_ordered f h zero less = omega arith
sums_ordered f h (suc n) less =
    let before : sum_below f n ≤ sum_below h n =
    sums_ordered f h n (λ k below. less k (omega (arith, below))) in
    let last : f n ≤ h n = less n (omega arith) in
    omega (arith, before, last)

-- where all terms but one are equal, the sums differ as that one does
pub sums_but : (f h : ℕ → ℕ) (g n : ℕ) → g < n → ((k : ℕ) → (k ≡ g → ⊥) → f k ≡ h k)
    → sum_below f n + h g ≡ sum_below h n + f g
sums_but f h g zero within same = absurd (omega (arith, within))
sums_but f h g (suc n) within same =
    by_place (λ other. sums_but f h g n (omega (arith, within, other)) same) (cases_eq n g)
  where
    by_place : ((n ≡ g → ⊥) → sum_below f n + h g ≡ sum_below h n + f g)
        → (n ≡ g) ⊎ (n ≡ g → ⊥)
        → sum_below f (suc n) + h g ≡ sum_below h (suc n) + f g
    by_place below (inl last) =
        let before : sum_below f n ≡ sum_below h n =
        sums_same f h n (λ k less. same k (λ e. absurd (omega (arith, less, last, e)))) in
        let of_f : f n ≡ f g = ap f last in
        let of_h : h n ≡ h g = ap h last in
        omega (arith, before, of_f, of_h)
    by_place below (inr other) =
        let before : sum_below f n + h g ≡ sum_below h n + f g = below other in
        let last : f n ≡ h n = same n other in
        omega (arith, before, last)

-- each term is at most the sum
pub term_within : (f : ℕ → ℕ) (g n : ℕ) → g < n → f g ≤ sum_below f n
term_within f g zero within = absurd (omega (arith, within))
term_within f g (suc n) within =
    by_place (λ below. term_within f g n below) (cases_eq n g)
  where
    by_place : (g < n → f g ≤ sum_below f n) → (n ≡ g) ⊎ (n ≡ g → ⊥) → f g ≤ sum_below f (suc n)
    by_place below (inl last) = let of_f : f n ≡ f g = ap f last in omega (arith, of_f)
    by_place below (inr other) =
        let part : f g ≤ sum_below f n = below (omega (arith, within, other)) in
        omega (arith, part)

-- no term is larger, nor is the sum over the list
list_ordered : {X : Type 0} (f h : X → ℕ) (xs : List X)
    → ((j : ℕ) (y : X) → slice_get xs j ≡ Some y → f y ≤ h y) → sum_by f xs ≤ sum_by h xs
list_ordered f h [] less = omega arith
list_ordered f h (y ∷ xs) less =
    omega (
      arith,
      sum_by-cons f y xs,
      sum_by-cons h y xs,
      less zero y refl,
      list_ordered f h xs (λ j z at. less (suc j) z at),
    )

-- where no term is smaller and one is larger, the sum is larger
pub list_rises : {X : Type 0} (f h : X → ℕ) (xs : List X) (i : ℕ) (x : X)
    → slice_get xs i ≡ Some x
    → ((j : ℕ) (y : X) → slice_get xs j ≡ Some y → f y ≤ h y) → f x + 1 ≤ h x
    → sum_by f xs + 1 ≤ sum_by h xs
list_rises f h [] i x there less more = absurd (none-some x there)
list_rises f h (y ∷ xs) zero x there less more =
    let is : y ≡ x = same_Some y x there in
    let of_f : f y ≡ f x = ap f is in
    let of_h : h y ≡ h x = ap h is in
    omega (
      arith,
      sum_by-cons f y xs,
      sum_by-cons h y xs,
      list_ordered f h xs (λ j z at. less (suc j) z at),
      more,
      of_f,
      of_h,
    )
list_rises f h (y ∷ xs) (suc i) x there less more =
    omega (
      arith,
      sum_by-cons f y xs,
      sum_by-cons h y xs,
      less zero y refl,
      list_rises f h xs i x there (λ j z at. less (suc j) z at) more,
    )

-- where each term is larger by so much at most, the sum is larger by that much for each
pub list_within : {X : Type 0} (f h : X → ℕ) (most : ℕ) (xs : List X)
    → ((j : ℕ) (y : X) → slice_get xs j ≡ Some y → f y ≤ h y + most)
    → sum_by f xs ≤ sum_by h xs + length xs * most
list_within f h most [] less = omega arith
list_within f h most (y ∷ xs) less =
    let rest : sum_by f xs ≤ sum_by h xs + length xs * most =
    list_within f h most xs (λ j z at. less (suc j) z at) in
    omega (arith, sum_by-cons f y xs, sum_by-cons h y xs, less zero y refl, rest)
