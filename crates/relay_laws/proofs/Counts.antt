-- How many elements pass a test.
use Rattle.std.proofs.Common.{◌≡◌, ◌+◌, ◌≤◌, Bool, true, false, List, [], ◌∷◌, count_by}
use Rattle.std.proofs.Common.{cond, refl, sym, arith, le_refl, zero-le, true≢false}
use Rattle.std.proofs.lemmas.List.Sums.{sum_by-cons}

-- what passes one test passes the other, so no fewer pass that
pub count-le : {X : Type 0} (p q : X → Bool) → ((x : X) → p x ≡ true → q x ≡ true) → (xs : List X)
    → count_by p xs ≤ count_by q xs
count-le p q more [] = zero-le
count-le p q more (x ∷ xs) =
    omega (
      arith,
      sum_by-cons (λ y. cond (p y) 1 0) x xs,
      sum_by-cons (λ y. cond (q y) 1 0) x xs,
      count-le p q more xs,
      ones (p x) (q x) (more x),
    )
  where
    ones : (a b : Bool) → (a ≡ true → b ≡ true) → cond a 1 0 ≤ cond b 1 0
    ones true true implies = le_refl 1
    ones true false implies = absurd (true≢false (sym (implies refl)))
    ones false b implies = zero-le

-- what passes one of two tests that nothing passes both of passes the third
pub count-two : {X : Type 0} (p q r : X → Bool) → ((x : X) → p x ≡ true → q x ≡ true → ⊥)
    → ((x : X) → p x ≡ true → r x ≡ true) → ((x : X) → q x ≡ true → r x ≡ true) → (xs : List X)
    → count_by p xs + count_by q xs ≤ count_by r xs
count-two p q r apart first second [] = le_refl 0
count-two p q r apart first second (x ∷ xs) =
    omega (
      arith,
      sum_by-cons (λ y. cond (p y) 1 0) x xs,
      sum_by-cons (λ y. cond (q y) 1 0) x xs,
      sum_by-cons (λ y. cond (r y) 1 0) x xs,
      count-two p q r apart first second xs,
      ones (p x) (q x) (r x) (apart x) (first x) (second x),
    )
  where
    ones : (a b c : Bool) → (a ≡ true → b ≡ true → ⊥) → (a ≡ true → c ≡ true)
        → (b ≡ true → c ≡ true)
        → cond a 1 0 + cond b 1 0 ≤ cond c 1 0
    ones true true c never x y = absurd (never refl refl)
    ones true false true never x y = le_refl 1
    ones true false false never x y = absurd (true≢false (sym (x refl)))
    ones false true true never x y = le_refl 1
    ones false true false never x y = absurd (true≢false (sym (y refl)))
    ones false false c never x y = zero-le
