-- The first element that passes a test.
use Rattle.std.proofs.Common.{◌≡◌, Bool, List, [], ◌∷◌, ◌++◌, Some, None, refl}
use Rattle.std.specs.Prelude.{find, IsTrue, IsFalse}
use Rattle.std.specs.List.{AllByRecursion}

-- it stands behind elements that do not pass
pub find-first : {A : Type 0} (p : A → Bool) (before after : List A) (x : A)
    → AllByRecursion (λ y. IsFalse (p y)) before → IsTrue (p x)
    → find p (before ++ x ∷ after) ≡ Some x
find-first p [] after x none h = rw h refl
find-first p (y ∷ before) after x none h = rw none.0 (find-first p before after x none.1 h)

-- there is none where no element passes
pub find-none : {A : Type 0} (p : A → Bool) (xs : List A) → AllByRecursion (λ y. IsFalse (p y)) xs
    → find p xs ≡ None
find-none p [] none = refl
find-none p (y ∷ xs) none = rw none.0 (find-none p xs none.1)
