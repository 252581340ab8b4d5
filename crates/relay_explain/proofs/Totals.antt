-- What is added up of the elements so far, and of one more.
use Rattle.std.proofs.Common.{◌≡◌, ◌<◌, ◌+◌, ap, arith, ℕ, List, length, take}
use Rattle.std.proofs.Math.ListN.{get_or}
use Rattle.std.proofs.lemmas.List.Sums.{sum_by_more}
use Rattle.std.specs.List.{sum_by}

-- The sum of one element more is what was added up with its part.
pub one_more : {X : Type 0} (f : X → ℕ) (xs : List X) (one : X) (k had part : ℕ)
    → one ≡ get_or xs k one → k < length xs → had ≡ sum_by f (take k xs) → part ≡ f one
    → had + part ≡ sum_by f (take (k + 1) xs)
one_more f xs one k had part at there is of = omega (
  arith,
  is,
  of,
  ap f at,
  sum_by_more f xs k one there,
)
