-- The numbers of a line that were read so far, and those that are left.
use Rattle.std.proofs.Common.{◌≡◌, ◌++◌, ◌∷◌, [], List, ℕ, Option, None, Some, ap, sym, refl}
use Rattle.std.proofs.Common.{append_assoc, option_map}

-- Nothing stands before what is there.
pub before_all : (rest : Option (List (List ℕ))) → rest ≡ option_map (λ more. [] ++ more) rest
before_all None = refl
before_all (Some rest) = refl

-- One number more stands before what is left.
pub one_number : (so_far : List (List ℕ)) (number : List ℕ) (rest : Option (List (List ℕ)))
    → option_map (λ more. so_far ++ more) (option_map (λ more. number ∷ more) rest)
    ≡ option_map (λ more. (so_far ++ number ∷ []) ++ more) rest
one_number so_far number None = refl
one_number so_far number (Some rest) = ap Some (sym (append_assoc so_far (number ∷ []) rest))
