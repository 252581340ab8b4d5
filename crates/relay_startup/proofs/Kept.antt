-- What is left of a list.
use Rattle.std.proofs.Common.{◌≡◌, ap, refl, Bool, true, false, List, [], ◌∷◌, map, Option, None}
use Rattle.std.proofs.Common.{Some}
use Rattle.std.specs.Prelude.{filter, is_some, option_map}

-- what is left of a list by what is made of its items, is what is left of what is made of them
pub map_filter : {X Y : Type 0} (f : X → Y) (test : Y → Bool) (xs : List X)
    → map f (filter (λ x. test (f x)) xs) ≡ filter test (map f xs)
map_filter f test [] = refl
map_filter {X} {Y} f test (x ∷ xs) = by (test (f x)) refl (map_filter f test xs)
  where
    by : (b : Bool) → test (f x) ≡ b
        → map f (filter (λ x. test (f x)) xs) ≡ filter test (map f xs)
        → map f (filter (λ x. test (f x)) (x ∷ xs)) ≡ filter test (map f (x ∷ xs))
    by true is rest = rw is (ap (λ (ys : List Y). f x ∷ ys) rest)
    by false is rest = rw is rest

-- what is made of something that may be there is there as that is
pub some_made : {X Y : Type 0} (f : X → Y) (one : Option X)
    → is_some (option_map f one) ≡ is_some one
some_made f None = refl
some_made f (Some x) = refl
