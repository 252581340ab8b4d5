-- Beginnings of one list.
use Rattle.std.proofs.Common.{◌≡◌, ◌≤◌, List, [], ◌∷◌, length, refl, arith, ◌⊎◌, inl, inr, ⊎_elim}
use mathlib.Core.List.{IsPrefix}

-- a beginning as long as the whole is the whole
pub prefix_whole : {A : Type 0} (xs ys : List A) → IsPrefix xs ys → length ys ≤ length xs
    → xs ≡ ys
prefix_whole [] [] p le = refl
prefix_whole [] (y ∷ ys) p le = absurd (omega arith)
prefix_whole (x ∷ xs) [] p le = absurd (cc (p.1))
prefix_whole (x ∷ xs) (y ∷ ys) p le =
    let rest = prefix_whole xs ys (p.0, cc (p.1)) (omega arith) in cc (p.1, rest)

-- of two beginnings of one list one begins the other
pub comparable : {A : Type 0} (xs ys zs : List A) → IsPrefix xs zs → IsPrefix ys zs
    → IsPrefix xs ys ⊎ IsPrefix ys xs
comparable [] ys zs p q = inl (ys, refl)
comparable (x ∷ xs) [] zs p q = inr (x ∷ xs, refl)
comparable (x ∷ xs) (y ∷ ys) [] p q = absurd (cc (p.1))
comparable (x ∷ xs) (y ∷ ys) (z ∷ zs) p q =
    let heads : x ≡ y = cc (p.1, q.1) in
    ⊎_elim
    (λ (r : IsPrefix xs ys). inl (r.0, cc (heads, r.1)))
    (λ (r : IsPrefix ys xs). inr (r.0, cc (heads, r.1)))
    (comparable xs ys zs (p.0, cc (p.1)) (q.0, cc (q.1)))
