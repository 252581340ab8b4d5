-- Octets of a bitmap.
use Rattle.std.proofs.Common.{◌≡◌, ◌∙◌, ℕ, zero, suc, ◌+◌, ◌-◌, ◌*◌, ◌/◌, ◌%◌, ◌<◌, ◌≤◌, ◌==◌, Bool}
use Rattle.std.proofs.Common.{true, false, List, ◌∷◌, get_or, length, replicate, refl, sym, ap}
use Rattle.std.proofs.Common.{arith}
use Rattle.std.specs.Int.{bit_at}
use Rattle.std.proofs.Math.Nat.{div-add-mod}
use Rattle.std.proofs.lemmas.Nat.Bits.{bit_at-suc, bit_at_lowest}
use Rattle.news_terms.specs.HeadBlocks.{octets_of, octet_of, weight, bitmap_block, is_set}
use Rattle.news_terms.specs.HeadBlocks.{bits_of_block}
use Rattle.news_terms.specs.Places.{block_size}

-- where no block but the first is marked, all other octets are 0
pub zeros_behind : (from n : ℕ) → 1 ≤ from → octets_of (λ j. j == 0) from n ≡ replicate n 0
unfolding octets_of
zeros_behind from zero h = refl
zeros_behind from (suc n) h =
    let rest = zeros_behind (from + 8) n (omega (arith, h)) in
    let none : octet_of (λ j. j == 0) from ≡ 0 = grind (arith, h) in
    ap (λ (o : List ℕ). octet_of (λ j. j == 0) from ∷ o) rest
    ∙ ap (λ o. o ∷ replicate n 0) none

-- octet k speaks of the eight blocks from 8 k on
pub octet_at : (marked : ℕ → Bool) (from n k : ℕ) → k < n
    → get_or (octets_of marked from n) k 0 ≡ octet_of marked (from + 8 * k)
unfolding octets_of
octet_at marked from zero k h = absurd (omega (arith, h))
octet_at marked from (suc n) zero h = ap (octet_of marked) (omega arith)
octet_at marked from (suc n) (suc k) h =
    octet_at marked (from + 8) n k (omega (arith, h)) ∙ ap (octet_of marked) (omega arith)

-- as many octets are made as are asked for
pub octets_length : (marked : ℕ → Bool) (from n : ℕ) → length (octets_of marked from n) ≡ n
unfolding octets_of
octets_length marked from zero = refl
octets_length marked from (suc n) = ap suc (octets_length marked (from + 8) n)

-- what a mark counts for, by what it counts for in the lowest place
weighs : (b : Bool) (of : ℕ) → weight b of ≡ of * weight b 1
weighs true of = omega arith
weighs false of = omega arith

-- there a mark is one binary digit
weighs_one : (b : Bool) → weight b 1 < 2
weighs_one true = omega arith
weighs_one false = omega arith

-- which is 1 where it is set
is_one : (b : Bool) → (weight b 1 == 1) ≡ b
is_one true = refl
is_one false = refl

-- the number whose binary digits are the marks of so many blocks, the first of them the highest
unfoldable number_of : (ℕ → Bool) → (from n : ℕ) → ℕ
number_of marked from zero = 0
number_of marked from (suc n) = 2 * number_of marked from n + weight (marked (from + n)) 1

-- an octet is the number of eight blocks
octet_is : (marked : ℕ → Bool) (from : ℕ) → octet_of marked from ≡ number_of marked from 8
unfolding number_of
octet_is marked from =
    let first : weight (marked (from + 0)) 1 ≡ weight (marked from) 1 =
    ap (λ j. weight (marked j) 1) (omega arith) in
    omega (
      arith,
      first,
      weighs (marked from) 128,
      weighs (marked (from + 1)) 64,
      weighs (marked (from + 2)) 32,
      weighs (marked (from + 3)) 16,
      weighs (marked (from + 4)) 8,
      weighs (marked (from + 5)) 4,
      weighs (marked (from + 6)) 2,
    )

-- the lowest digit of a number, and the digits above it
lowest : (n d : ℕ) → d < 2 → (2 * n + d) % 2 ≡ d
lowest n d h = omega (arith, h)

above : (n d : ℕ) → d < 2 → (2 * n + d) / 2 ≡ n
above n d h = omega (arith, h)

-- the digit of a block before so many others is its mark
digit_told : (marked : ℕ → Bool) (from k n others : ℕ) → n ≡ k + others
    → bit_at (number_of marked from (suc n)) others ≡ weight (marked (from + k)) 1
unfolding number_of
digit_told marked from k n zero e =
    bit_at_lowest (number_of marked from (suc n))
    ∙ lowest (number_of marked from n) (weight (marked (from + n)) 1)
    (weighs_one (marked (from + n)))
    ∙ ap (λ j. weight (marked (from + j)) 1) (omega (arith, e))
digit_told marked from k zero (suc others) e = absurd (omega (arith, e))
digit_told marked from k (suc n) (suc others) e =
    bit_at-suc (number_of marked from (suc (suc n))) others
    ∙ ap (λ m. bit_at m others) (above (number_of marked from (suc n))
    (weight (marked (from + suc n)) 1) (weighs_one (marked (from + suc n))))
    ∙ digit_told marked from k n others (omega (arith, e))

-- the bit of one of the eight blocks of an octet is its mark
told_in : (marked : ℕ → Bool) (from k : ℕ) → k < 8
    → (bit_at (octet_of marked from) (7 - k) == 1) ≡ marked (from + k)
told_in marked from k h =
    ap (λ n. bit_at n (7 - k) == 1) (octet_is marked from)
    ∙ ap (λ n. n == 1) (digit_told marked from k 7 (7 - k) (omega (arith, h)))
    ∙ is_one (marked (from + k))

-- the bit of a block of a bitmap is its mark
pub told_at : (marked : ℕ → Bool) (i j : ℕ) → j < bits_of_block
    → is_set (bitmap_block marked i) j ≡ marked (bits_of_block * i + j)
told_at marked i j h =
    let parts = div-add-mod j 8 in
    let from = bits_of_block * i + 8 * (j / 8) in
    ap (λ octet. bit_at octet (7 - j % 8) == 1)
    (octet_at marked (bits_of_block * i) block_size (j / 8) (omega (arith, h, parts)))
    ∙ told_in marked from (j % 8) (omega arith)
    ∙ ap marked (omega (arith, parts))

-- blocks of one bitmap have the same marks
pub same_marks : (a b : ℕ → Bool) (i j : ℕ) → j < bits_of_block
    → bitmap_block a i ≡ bitmap_block b i
    → a (bits_of_block * i + j) ≡ b (bits_of_block * i + j)
same_marks a b i j h same =
    sym (told_at a i j h) ∙ ap (λ (o : List ℕ). is_set o j) same ∙ told_at b i j h
