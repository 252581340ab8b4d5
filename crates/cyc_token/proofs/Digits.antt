-- The digits of octets: those of the definition are those that hex reads and writes.
use Rattle.std.specs.Prelude.{◌||◌}
use Rattle.std.proofs.Common.{◌≡◌, ℕ, zero, suc, ◌+◌, ◌*◌, ◌/◌, ◌%◌, ◌<◌, ◌==◌, Bool, true, false}
use Rattle.std.proofs.Common.{◌&&◌, List, [], ◌∷◌, map, slice_index, Option, Some, None}
use Rattle.std.proofs.Common.{is_some, inl, inr, Result, Ok, Err, refl, ap, arith}
use Rattle.std.specs.List.{flat_map, AllPass, list_any}
use Rattle.std.specs.Char.{to_ascii_uppercase, is_ascii_lowercase}
use Rattle.std.specs.Result.{result_unwrap_or}
use Rattle.std.proofs.lemmas.Bool.{and_parts, or_parts, cases_lt, eqb-true}
use Rattle.std.proofs.lemmas.List.Elements.{All-cons, All-nil}
use Rattle.hex.specs.Hex.{IsBytes, decode_pairs, encode_with, encode_lower, lower_digits}
use Rattle.hex.specs.Hex.{hex_digit_value, is_hex_digit, value_at, pair_value, digit_or_error}
use Rattle.hex.specs.Hex.{◌>>=◌}
use Rattle.hex.specs.declared.error.FromHexError.{FromHexError}
use Rattle.news_terms.specs.Token.{octet_digits, upper_digit}

-- a digit of the table, in upper case, is the digit of the definition, as a test that computes
abbrev agrees : ℕ → Bool
agrees n = to_ascii_uppercase (slice_index lower_digits n) == upper_digit n

-- the test of the first n digits
abbrev all_agree : ℕ → Bool
all_agree zero = true
all_agree (suc n) = agrees n && all_agree n

-- a digit below n passed the test
agrees_at : (n k : ℕ) → all_agree n ≡ true → k < n → agrees k ≡ true
agrees_at zero k h lt = absurd (omega arith)
agrees_at (suc n) k h lt =
    let parts = and_parts (agrees n) (all_agree n) h in
    elim (cases_lt k n) [
      | inl below ↦ agrees_at n k parts.1 below
      | inr top ↦
          let e : k ≡ n = omega arith in
          rw e parts.0
    ]

-- a digit of the table, in upper case, is the digit of the definition
upper_of_lower : (n : ℕ) → n < 16 → to_ascii_uppercase (slice_index lower_digits n) ≡ upper_digit n
upper_of_lower n h =
    eqb-true (to_ascii_uppercase (slice_index lower_digits n)) (upper_digit n)
    (agrees_at 16 n refl h)

-- lower case text in upper case has the digits of the definition
pub upper_text : (xs : List ℕ) → IsBytes xs
    → map to_ascii_uppercase (encode_lower xs) ≡ flat_map octet_digits xs
unfolding encode_with
upper_text [] h = refl
upper_text (x ∷ xs) h =
    let small : x < 256 = h 0 in
    let a = upper_of_lower (x / 16) (omega arith) in
    let b = upper_of_lower (x % 16) (omega arith) in
    rw (a, b, upper_text xs (λ k. h (suc k))) refl

-- a digit of the definition is hex's, of the same value and in upper case
digit_fits : (n : ℕ) → n < 16 → (hex_digit_value (upper_digit n) ≡ Some n)
    × (is_ascii_lowercase (upper_digit n) ≡ false)
digit_fits n h = (grind arith, grind arith)

-- the digits of octets are digits
pub digits_fit : (xs : List ℕ) → IsBytes xs → AllPass is_hex_digit (flat_map octet_digits xs)
    × (list_any is_ascii_lowercase (flat_map octet_digits xs) ≡ false)
digits_fit [] h = (All-nil (λ c. is_hex_digit c ≡ true), refl)
digits_fit (x ∷ xs) h =
    let small : x < 256 = h 0 in
    let a = digit_fits (x / 16) (omega arith) in
    let b = digit_fits (x % 16) (omega arith) in
    let rest = digits_fit xs (λ k. h (suc k)) in
    let P : ℕ → Type 0 = λ c. is_hex_digit c ≡ true in
    let later = flat_map octet_digits xs in
    let high : is_hex_digit (upper_digit (x / 16)) ≡ true = ap is_some a.0 in
    let low : is_hex_digit (upper_digit (x % 16)) ≡ true = ap is_some b.0 in (
      All-cons P (upper_digit (x / 16)) (upper_digit (x % 16) ∷ later) high
          (All-cons P (upper_digit (x % 16)) later low rest.0),
      rw (a.1, b.1) rest.1,
    )

-- an upper case digit is that of its value
digit_back : (c v : ℕ) → hex_digit_value c ≡ Some v → is_ascii_lowercase c ≡ false
    → (upper_digit v ≡ c) × (v < 16)
digit_back c v h l = (grind arith, grind arith)

-- a digit that read has the value that hex gives it
digit_read : (c i : ℕ) (o : Option ℕ) (v : ℕ) → digit_or_error c i o ≡ Ok v → o ≡ Some v
digit_read c i (Some w) v h = ap Some (ap (λ (r : Result ℕ FromHexError). result_unwrap_or r 0) h)
digit_read c i None v h = cc h

-- what an `Ok` after `>>=` shows
bind_ok : {A B : Type 0} (r : Result A FromHexError) (f : A → Result B FromHexError) (y : B)
    → (r >>= f) ≡ Ok y → (x : A) × (r ≡ Ok x) × (f x ≡ Ok y)
bind_ok (Ok x) f y h = (x, refl, h)
bind_ok (Err e) f y h = cc h

-- upper case digits that decode are those of the octets
pub decodes_from : (i : ℕ) (s xs : List ℕ) → decode_pairs i s ≡ Ok xs
    → list_any is_ascii_lowercase s ≡ false
    → flat_map octet_digits xs ≡ s
unfolding decode_pairs
decodes_from i [] xs e h =
    let same : [] ≡ xs = ap (λ (r : Result (List ℕ) FromHexError). result_unwrap_or r []) e in
    rw (← same) refl
decodes_from i (a ∷ []) xs e h = cc e
decodes_from i (a ∷ b ∷ rest) xs e h =
    let p0 = bind_ok (pair_value a b i) _ xs e in
    let p1 = bind_ok (value_at a i) _ p0.0 p0.1 in
    let p2 = bind_ok (value_at b (i + 1)) _ p0.0 p1.2 in
    let p3 = bind_ok (decode_pairs (i + 2) rest) _ xs p0.2 in
    let la = or_parts (is_ascii_lowercase a)
    (is_ascii_lowercase b || list_any is_ascii_lowercase rest) h in
    let lb = or_parts (is_ascii_lowercase b) (list_any is_ascii_lowercase rest) la.1 in
    let ih = decodes_from (i + 2) rest p3.0 p3.1 lb.1 in
    let whole : p0.0 ∷ p3.0 ≡ xs =
    ap (λ (r : Result (List ℕ) FromHexError). result_unwrap_or r []) p3.2 in
    let byte : p1.0 * 16 + p2.0 ≡ p0.0 =
    ap (λ (r : Result ℕ FromHexError). result_unwrap_or r 0) p2.2 in
    let da = digit_back a p1.0 (digit_read a i (hex_digit_value a) p1.0 p1.1) la.0 in
    let db = digit_back b p2.0 (digit_read b (i + 1) (hex_digit_value b) p2.0 p2.1) lb.0 in
    let high : p0.0 / 16 ≡ p1.0 = omega (arith, da.1, db.1) in
    let low : p0.0 % 16 ≡ p2.0 = omega (arith, da.1, db.1) in
    rw (← whole, high, low, da.0, db.0, ih) refl
