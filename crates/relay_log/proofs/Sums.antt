-- Sums of octets, and checks.
use Rattle.std.proofs.Common.{◌≡◌, ◌≢◌, ◌∙◌, ℕ, zero, suc, ◌+◌, ◌*◌, ◌%◌, ◌^◌, ◌<◌, List, []}
use Rattle.std.proofs.Common.{◌∷◌, ◌++◌}
use Rattle.std.proofs.Common.{length, get_or, take, ap, arith}
use Rattle.std.specs.Prelude.{bit_xor}
use Rattle.std.proofs.lemmas.List.Sums.{fold-append, fold_more}
use Rattle.relay_log.specs.Check.{sum_step, sum_on, not_zero, check}

-- one octet more
pub sum_more : (sum : ℕ) (octets : List ℕ) (i d : ℕ) → i < length octets
    → sum_on sum (take (i + 1) octets) ≡ sum_step (sum_on sum (take i octets)) (get_or octets i d)
unfolding sum_on
sum_more sum octets i d there = fold_more sum_step sum octets i d there

-- the sum of some octets, and then of others
pub sum_of_both : (sum : ℕ) (one other : List ℕ)
    → sum_on sum (one ++ other) ≡ sum_on (sum_on sum one) other
unfolding sum_on
sum_of_both sum one other = fold-append sum_step sum one other

-- a sum has room in four octets
pub sum_fits : (sum : ℕ) (octets : List ℕ) → sum < 2 ^ 32 → sum_on sum octets < 2 ^ 32
unfolding sum_on sum_step
sum_fits sum [] small = small
sum_fits sum (octet ∷ octets) small =
    sum_fits (bit_xor sum octet * 16777619 % 2 ^ 32) octets (omega arith)

-- so has a check
pub check_fits : (octets : List ℕ) → check octets < 2 ^ 32
unfolding check
check_fits octets = fits (sum_on 2166136261 octets) (sum_fits 2166136261 octets (omega arith))
  where
    fits : (sum : ℕ) → sum < 2 ^ 32 → not_zero sum < 2 ^ 32
    fits zero small = omega arith
    fits (suc sum) small = small

-- no check is 0
pub check_is_not_zero : (octets : List ℕ) → 0 ≢ check octets
unfolding check
check_is_not_zero octets = differs (sum_on 2166136261 octets)
  where
    differs : (sum : ℕ) → 0 ≢ not_zero sum
    differs zero = λ same. absurd (omega (arith, same))
    differs (suc sum) = λ same. absurd (omega (arith, same))

-- the check of three texts behind one another
pub check_of_three : (one two three : List ℕ)
    → check (one ++ (two ++ three)) ≡ not_zero (sum_on (sum_on (sum_on 2166136261 one) two) three)
unfolding check
check_of_three one two three =
    ap not_zero (sum_of_both 2166136261 one (two ++ three)
    ∙ sum_of_both (sum_on 2166136261 one) two three)
