-- What was found in stores that are watched.
use Rattle.std.proofs.Common.{◌≡◌, ◌<◌, ℕ, List, All, map, subst, sym}
use Rattle.std.proofs.lemmas.List.{get_or-map, length-map}
use Rattle.std.proofs.lemmas.List.Elements.{All-map}

-- what holds of all that was made of a row holds of what it was made of
pub all_there : {X Y : Type 0} (P : Y → Type 0) (f : X → Y) (xs : List X) (ys : List Y)
    → map f xs ≡ ys → All P ys → All (λ x. P (f x)) xs
all_there P f xs ys same all = λ k d within.
    subst P (get_or-map f xs k d (f d) within)
    (subst (All P) (sym same) all k (f d) (subst (λ (n : ℕ). k < n) (sym (length-map xs f)) within))

-- what was found of each of a row was found of those of another of which the same was found
pub found_there : {X Y : Type 0} (P : Y → Type 0) (f : X → Y) (xs ys : List X)
    → map f xs ≡ map f ys → All (λ y. P (f y)) ys → All (λ x. P (f x)) xs
found_there P f xs ys same all = all_there P f xs (map f ys) same (All-map P f ys all)
