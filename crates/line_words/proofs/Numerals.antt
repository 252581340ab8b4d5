-- Numerals: what the digits say, and that more of them say no less.
use Rattle.std.proofs.Common.{◌≡◌, ℕ, ◌<◌, ◌≤◌, ◌+◌, ◌-◌, ◌*◌, ◌^◌, true, zero, suc, List, [], ◌∷◌}
use Rattle.std.proofs.Common.{length, get_or, refl, ap, arith, rules, tests, take}
use Rattle.std.specs.Prelude.{◌&&◌, decimal}
use Rattle.std.specs.Char.{is_ascii_digit, digit_value}
use Rattle.std.specs.Str.{all_ascii_digits}
use Rattle.std.specs.List.{list_all}
use Rattle.std.proofs.lemmas.Bool.{and_parts}
use Rattle.std.proofs.lemmas.Fmt.{length-decimal-le}
use Rattle.std.proofs.lemmas.Str.{digit_value_digit}
use Rattle.std.proofs.lemmas.Int.Digits.{digits_value_more}
use Rattle.std.proofs.lemmas.Str.Parse.{digits_value-take-le}
use Rattle.std.specs.Str.Parse.{digits_value}

-- The digits of a word, one by one.
pub list_all-digits : (word : List ℕ) → list_all is_ascii_digit word ≡ all_ascii_digits word
list_all-digits [] = refl
list_all-digits (c ∷ word) = ap (λ b. is_ascii_digit c && b) (list_all-digits word)

-- Among digits each octet is one.
pub digit_at : (word : List ℕ) (i : ℕ) → all_ascii_digits word ≡ true → i < length word
    → is_ascii_digit (get_or word i 0) ≡ true
digit_at [] i all h = absurd (omega arith)
digit_at (c ∷ word) zero all h = (and_parts (is_ascii_digit c) (all_ascii_digits word) all).0
digit_at (c ∷ word) (suc i) all h =
    digit_at word i (and_parts (is_ascii_digit c) (all_ascii_digits word) all).1 (omega (arith, h))

-- The octets of digits.
pub digit_range : (c : ℕ) → is_ascii_digit c ≡ true → (48 ≤ c) × (c ≤ 57)
digit_range c h = search (rules, tests)

-- The value of a digit.
pub value_of_digit : (c : ℕ) → is_ascii_digit c ≡ true → digit_value c ≡ c - 48
value_of_digit c h =
    let r = digit_range c h in let v = digit_value_digit c r in omega (arith, v)

-- Where a number with its next digit is too large, so is the whole.
pub too_large : (ds : List ℕ) (i value digit : ℕ) → i < length ds
    → value ≡ digits_value 10 (take i ds) → digit ≤ digit_value (get_or ds i 0)
    → ¬ (value * 10 + digit < 2 ^ 64) → 2 ^ 64 ≤ digits_value 10 ds
too_large ds i value digit h v d large =
    let more = digits_value_more 10 ds i h in
    let whole = digits_value-take-le 10 ds (i + 1) (omega arith) in
    let least : 2 ^ 64 ≤ value * 10 + digit = omega (arith, large) in
    omega (arith, more, whole, least, v, d)

-- A number of 64 bits has at most 20 digits.
pub decimal_within : (n : ℕ) → n < 2 ^ 64 → length (decimal n) ≤ 20
decimal_within n small = length-decimal-le 20 n (omega arith) (omega (arith, small)) small
