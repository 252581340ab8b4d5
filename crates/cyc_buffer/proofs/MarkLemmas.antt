-- Bits of words, and the marks that they are.
use Rattle.std.proofs.Common.{◌≡◌, ◌≢◌, ◌∙◌, ℕ, zero, suc, ◌+◌, ◌-◌, ◌*◌, ◌/◌, ◌%◌, ◌^◌, ◌<◌, inl}
use Rattle.std.proofs.Common.{inr, nat_le, nat_lt, ◌≤◌, ◌==◌, ◌&&◌, ◌||◌, not, min, max, Bool}
use Rattle.std.proofs.Common.{true, false, List, get_or, set, length, replicate, refl, sym, ap}
use Rattle.std.proofs.Common.{arith, cond, bit_and, bit_or, w64}
use Rattle.std.specs.Int.{bit_at, bit_not}
use Rattle.std.proofs.lemmas.Bool.{cases_lt, cases_eq, lt-ltb, le-ltb, le-leb, lt-leb}
use Rattle.std.proofs.lemmas.List.{get_or-set_same, get_or-set_other, get_or-replicate}
use Rattle.std.proofs.lemmas.List.{length-replicate}
use Rattle.std.proofs.lemmas.Grind.{same_number_lists}
use Rattle.std.proofs.lemmas.Nat.Bits.{bit_at_ones, bit_at_ones_above, bit_at_and, bit_at_or}
use Rattle.std.proofs.lemmas.Nat.Bits.{bit_at_not, bit_at-lt, bit_at-zero}
use Rattle.std.proofs.Math.ListN.{get_or-eq_default}
use Rattle.std.proofs.Math.Bool.{and-false}
use Rattle.std.proofs.Math.Nat.{div-add-mod}
use Rattle.news_terms.specs.HeadBlocks.{bits_of_block, octet_of, bitmap_block}
use Rattle.news_terms.specs.Places.{block_size}
use Rattle.news_terms.proofs.Bitmaps.{octet_at, octets_length}
use Rattle.cyc_buffer.specs.Marks.{is_marked, is_among, marked_after}

-- the lowest bits of a run of ones
pub bit_below : (count i : ℕ) → (bit_at (2 ^ count - 1) i == 1) ≡ nat_lt i count
bit_below count i = elim (cases_lt i count) [
  | inl h ↦ rw (bit_at_ones count i h, lt-ltb i count h) refl
  | inr h ↦ rw (bit_at_ones_above count i h, le-ltb i count h) refl
]

-- a bit of one word that another word clears
pub bit_cleared : (a b : ℕ) → a < 2 → b < 2 → (min a (1 - b) == 1) ≡ ((a == 1) && not (b == 1))
bit_cleared zero zero p q = refl
bit_cleared zero (suc zero) p q = refl
bit_cleared (suc zero) zero p q = refl
bit_cleared (suc zero) (suc zero) p q = refl
bit_cleared zero (suc (suc b)) p q = absurd (omega (arith, q))
bit_cleared (suc zero) (suc (suc b)) p q = absurd (omega (arith, q))
bit_cleared (suc (suc a)) b p q = absurd (omega (arith, p))

-- a bit of one word that another word sets
pub bit_set : (a b : ℕ) → a < 2 → b < 2 → (max a b == 1) ≡ ((a == 1) || (b == 1))
bit_set zero zero p q = refl
bit_set zero (suc zero) p q = refl
bit_set (suc zero) zero p q = refl
bit_set (suc zero) (suc zero) p q = refl
bit_set zero (suc (suc b)) p q = absurd (omega (arith, q))
bit_set (suc zero) (suc (suc b)) p q = absurd (omega (arith, q))
bit_set (suc (suc a)) b p q = absurd (omega (arith, p))

-- bit i of one word that another one clears
pub clear_at : (a b i : ℕ) → b < 2 ^ 64 → i < 64
    → (bit_at (bit_and a (bit_not w64 b)) i == 1) ≡ ((bit_at a i == 1) && not (bit_at b i == 1))
clear_at a b i fits h =
    rw (bit_at_and a (bit_not w64 b) i, bit_at_not w64 b i fits h)
    (bit_cleared (bit_at a i) (bit_at b i) (bit_at-lt a i) (bit_at-lt b i))

-- bit i of one word that another one sets
pub set_at : (a b i : ℕ) → (bit_at (bit_or a b) i == 1) ≡ ((bit_at a i == 1) || (bit_at b i == 1))
set_at a b i = rw (bit_at_or a b i)
    (bit_set (bit_at a i) (bit_at b i) (bit_at-lt a i) (bit_at-lt b i))

-- the blocks from one up to another, counted from the first block of a word
pub among_shifted : (start from to i : ℕ)
    → (nat_lt i (to - start) && not (nat_lt i (from - start))) ≡ is_among from to (start + i)
among_shifted start from to i = elim (cases_lt i (from - start)) [
  | inl h ↦ rw (lt-ltb i (from - start) h, lt-leb from (start + i) (omega (arith, h)))
      (and-false (nat_lt i (to - start)))
  | inr h ↦ elim (cases_lt i (to - start)) [
    | inl k ↦ rw (
      le-ltb i (from - start) h,
      lt-ltb i (to - start) k,
      le-leb from (start + i) (omega (arith, h)),
      lt-ltb (start + i) to (omega (arith, k)),
    ) refl
    | inr k ↦ rw (
      le-ltb i (from - start) h,
      le-ltb i (to - start) k,
      le-leb from (start + i) (omega (arith, h)),
      le-ltb (start + i) to (omega (arith, k)),
    ) refl
  ]
]

-- what is set where it is among some, and else as it was
pub or_among : (o a : Bool) → (o || a) ≡ cond a true o
or_among true true = refl
or_among true false = refl
or_among false true = refl
or_among false false = refl

-- what is cleared where it is among some, and else as it was
pub and_not_among : (o a : Bool) → (o && not a) ≡ cond a false o
and_not_among true true = refl
and_not_among true false = refl
and_not_among false true = refl
and_not_among false false = refl

-- the mark of a block of the word that is changed
same_word : (words : List ℕ) (word value j : ℕ) → word < length words → j / 64 ≡ word
    → is_marked (set words word value) j ≡ (bit_at value (j % 64) == 1)
same_word words word value j h e =
    ap (λ k. bit_at (get_or (set words word value) k 0) (j % 64) == 1) e
    ∙ ap (λ w. bit_at w (j % 64) == 1) (get_or-set_same words word value 0 h)

-- the mark of a block of another word
other_word : (words : List ℕ) (word value j : ℕ) → j / 64 ≢ word
    → is_marked (set words word value) j ≡ is_marked words j
other_word words word value j n = ap (λ w. bit_at w (j % 64) == 1)
    (get_or-set_other words word (j / 64) value 0 n)

-- the marks after one word more is changed
pub marks_of_word : (words : List ℕ) (old : ℕ → Bool) (word value from to : ℕ) (b : Bool)
    → word < length words
    → ((j : ℕ) → is_marked words j ≡ cond (nat_lt j (64 * word)) (marked_after from to b j (old j))
    (old j))
    → ((i : ℕ) → i < 64 → (bit_at value i == 1)
    ≡ cond (is_among from to (word * 64 + i)) b (bit_at (get_or words word 0) i == 1))
    → (j : ℕ) → is_marked (set words word value) j
    ≡ cond (nat_lt j (64 * (word + 1))) (marked_after from to b j (old j)) (old j)
marks_of_word words old word value from to b h marks bits j = elim (cases_eq (j / 64) word) [
  | inl e ↦
      let low : j % 64 < 64 = omega arith in
      let here : word * 64 + j % 64 ≡ j = omega (arith, e, div-add-mod j 64) in
      let before : bit_at (get_or words word 0) (j % 64) == 1 ≡ old j =
      ap (λ k. bit_at (get_or words k 0) (j % 64) == 1) (sym e) ∙ marks j
      ∙ ap (λ t. cond t (marked_after from to b j (old j)) (old j))
      (le-ltb j (64 * word) (omega (arith, here))) in
      same_word words word value j h e ∙ bits (j % 64) low
      ∙ ap (λ k. cond (is_among from to k) b (bit_at (get_or words word 0) (j % 64) == 1)) here
      ∙ ap (cond (is_among from to j) b) before
      ∙ sym (ap (λ t. cond t (marked_after from to b j (old j)) (old j))
      (lt-ltb j (64 * (word + 1)) (omega (arith, here, low))))
  | inr n ↦
      let same : nat_lt j (64 * word) ≡ nat_lt j (64 * (word + 1)) = elim (cases_lt j (64 * word)) [
        | inl k ↦ lt-ltb j (64 * word) k ∙ sym (lt-ltb j (64 * (word + 1)) (omega (arith, k)))
        | inr k ↦ le-ltb j (64 * word) k
            ∙ sym (le-ltb j (64 * (word + 1)) (omega (arith, k, n, div-add-mod j 64)))
      ] in
      other_word words word value j n ∙ marks j
      ∙ ap (λ t. cond t (marked_after from to b j (old j)) (old j)) same
]

-- once the words up to the last block are changed all marks are
pub all_words : (from to word j : ℕ) (b old : Bool) → to ≤ 64 * word
    → cond (nat_lt j (64 * word)) (marked_after from to b j old) old
    ≡ marked_after from to b j old
all_words from to word j b old h = elim (cases_lt j (64 * word)) [
  | inl k ↦ ap (λ t. cond t (marked_after from to b j old) old) (lt-ltb j (64 * word) k)
  | inr k ↦
      let none : is_among from to j ≡ false =
      ap (λ t. nat_le from j && t) (le-ltb j to (omega (arith, h, k)))
      ∙ and-false (nat_le from j) in
      ap (λ t. cond t (marked_after from to b j old) old) (le-ltb j (64 * word) k)
      ∙ sym (ap (λ t. cond t b old) none)
]

-- words of zeros mark no block
pub none_marked : (n j : ℕ) → is_marked (replicate n 0) j ≡ false
none_marked n j = elim (cases_lt (j / 64) n) [
  | inl h ↦ ap (λ w. bit_at w (j % 64) == 1) (get_or-replicate n (j / 64) 0 0 h) ∙ zero_bit
  | inr h ↦ ap (λ w. bit_at w (j % 64) == 1)
      (get_or-eq_default (replicate n 0) 0 (omega (arith, h, length-replicate {A = ℕ} n 0)))
      ∙ zero_bit
]
  where
    zero_bit : (bit_at 0 (j % 64) == 1) ≡ false
    zero_bit = ap (λ b. b == 1) (bit_at-zero (j % 64))

-- octets that are each one of a bitmap's block are all of it
pub whole_block : (octets : List ℕ) (marked : ℕ → Bool) (i from : ℕ)
    → from ≡ bits_of_block * i → length octets ≡ block_size
    → ((m : ℕ) → m < block_size → get_or octets m 0 ≡ octet_of marked (from + 8 * m))
    → octets ≡ bitmap_block marked i
whole_block octets marked i from e size each =
    same_number_lists octets (bitmap_block marked i)
    (size ∙ sym (octets_length marked (bits_of_block * i) block_size))
    (λ m h. each m (omega (arith, h, size))
    ∙ ap (λ n. octet_of marked (n + 8 * m)) e
    ∙ sym (octet_at marked (bits_of_block * i) block_size m (omega (arith, h, size))))
