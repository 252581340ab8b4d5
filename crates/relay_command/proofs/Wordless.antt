-- Words of which none stands behind the program's name.
use Rattle.std.proofs.Common.{◌≡◌, ℕ, List, [], ◌∷◌, arith, length, map, nat_le, refl}
use Rattle.std.proofs.lemmas.Bool.{lt-leb}
use Rattle.relay_command.specs.Hints.{is_wordless}

-- That is so where there is one word at most.
pub one_at_most : {X : Type 0} (text : X → List ℕ) (words : List X)
    → nat_le (length words) 1 ≡ is_wordless (map text words)
one_at_most text [] = refl
one_at_most text (name ∷ []) = refl
one_at_most text (name ∷ word ∷ more) = lt-leb _ _ (omega arith)
