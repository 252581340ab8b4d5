-- What is kept of a list.
use Rattle.std.proofs.Common.{◌≡◌, ◌∷◌, [], List, Bool, true, false, ap, map, refl}
use Rattle.std.specs.Prelude.{filter, if◌then◌else◌}

-- What is kept by what the elements stand for is what is kept of that.
pub viewed : {A B : Type 0} (view : A → B) (test : B → Bool) (xs : List A)
    → map view (filter (λ (x : A). test (view x)) xs) ≡ filter test (map view xs)
viewed view test [] = refl
viewed {A} {B} view test (x ∷ xs) = by_first (test (view x)) (viewed view test xs)
  where
    by_first : (is : Bool)
        → map view (filter (λ (y : A). test (view y)) xs) ≡ filter test (map view xs)
        → map view (if is then x ∷ filter (λ (y : A). test (view y)) xs
        else filter (λ (y : A). test (view y)) xs)
        ≡ (if is then view x ∷ filter test (map view xs) else filter test (map view xs))
    by_first true rest = ap (λ (ys : List B). view x ∷ ys) rest
    by_first false rest = rest
