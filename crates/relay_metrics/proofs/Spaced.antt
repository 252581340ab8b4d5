-- The words of a line whose columns don't touch.
use Rattle.std.proofs.Common.{◌≡◌, ◌∙◌, ◌++◌, ◌∷◌, ◌==◌, ◌+◌, ◌-◌, ◌<◌, ◌^◌, [], zero, suc, List, ℕ}
use Rattle.std.proofs.Common.{ap, arith, append_assoc, false, length, refl, sym}
use Rattle.std.proofs.Common.{true}
use Rattle.std.specs.Prelude.{All, decimal, filter, not}
use Rattle.std.specs.Char.{is_ascii_digit}
use Rattle.std.specs.List.{slice_split}
use Rattle.std.specs.Str.{all_ascii_digits}
use Rattle.std.proofs.Math.Dec.{eqb-suc-zero}
use Rattle.std.proofs.lemmas.Fmt.{decimal_nonempty, digits_decimal, length-decimal-le}
use Rattle.std.proofs.lemmas.List.{replicate-append-replicate}
use Rattle.std.proofs.lemmas.List.Elements.{All-cons, All-nil}
use Rattle.std.proofs.lemmas.List.Splits.{slice_split_at, slice_split_none}
use Rattle.std.proofs.lemmas.Str.Parse.{numerals_by_value, tells_all_ascii_digits}
use Rattle.std.proofs.lemmas.Bool.{and_parts, ne_eqb}
use Rattle.line_words.proofs.Numerals.{digit_range}
use Rattle.line_words.specs.Numbers.{is_numeral}
use Rattle.line_words.specs.Words.{words}
use Rattle.line_words.specs.declared.words.Between.TheVariants.{Spaces}
use Rattle.relay_report.specs.Text.{spaces}
use Rattle.relay_metrics.specs.Laws.{IsName}

-- A part with an octet is a word.
kept : (part : List ℕ) (parts : List (List ℕ)) → 0 < length part
    → filter (λ (word : List ℕ). not (length word == 0)) (part ∷ parts)
    ≡ part ∷ filter (λ (word : List ℕ). not (length word == 0)) parts
kept [] parts some = absurd (omega (arith, some))
kept (c ∷ cs) parts some = rw (eqb-suc-zero (length cs)) refl

-- A word that a space follows is the first.
first_word : (word more : List ℕ) → IsName word
    → words Spaces (word ++ 32 ∷ more) ≡ word ∷ words Spaces more
first_word word more is =
    let space : ℕ → _ = λ (c : ℕ). c == 32 in
    ap (filter (λ (one : List ℕ). not (length one == 0)))
    (slice_split_at space word 32 more is.unspaced refl)
    ∙ kept word (slice_split space more) is.some

-- A word alone is the only one.
pub last_word : (word : List ℕ) → IsName word → words Spaces word ≡ word ∷ []
last_word word is =
    let space : ℕ → _ = λ (c : ℕ). c == 32 in
    ap (filter (λ (one : List ℕ). not (length one == 0)))
    (slice_split_none space word is.unspaced)
    ∙ kept word [] is.some

-- Spaces in front add no word.
pub led : (count : ℕ) (more : List ℕ) → words Spaces (spaces count ++ more) ≡ words Spaces more
led zero more = refl
led (suc count) more = led count more

-- A word that a space or more follow is the first.
pub next_word : (word : List ℕ) (count : ℕ) (more : List ℕ) → IsName word → 0 < count
    → words Spaces (word ++ (spaces count ++ more)) ≡ word ∷ words Spaces more
next_word word zero more is some = absurd (omega (arith, some))
next_word word (suc count) more is some =
    first_word word (spaces count ++ more) is
    ∙ ap (λ (others : List (List ℕ)). word ∷ others) (led count more)

-- So it is where they stand in two columns.
pub next_name : (word : List ℕ) (room count : ℕ) (more : List ℕ) → IsName word → 0 < count
    → words Spaces (word ++ (spaces room ++ (spaces count ++ more))) ≡ word ∷ words Spaces more
next_name word room count more is some =
    let one : spaces room ++ (spaces count ++ more) ≡ spaces (room + count) ++ more =
    sym (append_assoc (spaces room) (spaces count) more)
    ∙ ap (λ (o : List ℕ). o ++ more) (replicate-append-replicate room count 32) in
    ap (λ (o : List ℕ). words Spaces (word ++ o)) one
    ∙ next_word word (room + count) more is (omega (arith, some))

-- A digit is no space.
no_space : (c : ℕ) → is_ascii_digit c ≡ true → (c == 32) ≡ false
no_space c is = let range = digit_range c is in ne_eqb c 32 (omega (arith, range.0))

-- So it is of each digit.
digits_unspaced : (digits : List ℕ) → all_ascii_digits digits ≡ true
    → All (λ (c : ℕ). (c == 32) ≡ false) digits
digits_unspaced [] are = All-nil (λ (c : ℕ). (c == 32) ≡ false)
digits_unspaced (c ∷ digits) are =
    let parts = and_parts (is_ascii_digit c) (all_ascii_digits digits) are in
    All-cons (λ (one : ℕ). (one == 32) ≡ false) c digits (no_space c parts.0)
    (digits_unspaced digits parts.1)

-- Digits of which there is one are a numeral.
numeral_of : (digits : List ℕ) → 0 < length digits → all_ascii_digits digits ≡ true
    → is_numeral digits ≡ true
numeral_of [] some are = absurd (omega (arith, some))
numeral_of (c ∷ digits) some are = are

-- A number as it is written.
pub record IsNumber (places n : ℕ) : Type 0 where
  pub name : IsName (decimal n)
  pub numeral : is_numeral (decimal n) ≡ true
  pub room : 0 < places - length (decimal n)

-- One that is small enough for its column is one, with a space before it.
pub is_number : (places n : ℕ) → 0 < places → n < 10 ^ places → n < 2 ^ 64
    → IsNumber (places + 1) n
is_number places n some small fits =
    let digits : all_ascii_digits (decimal n) ≡ true =
    digits_decimal (numerals_by_value (λ (ds : List ℕ). all_ascii_digits ds ≡ true)
    tells_all_ascii_digits) n fits in
    let filled = decimal_nonempty n fits in
    let short = length-decimal-le places n some small fits in
    record {
      name = record { some = filled; unspaced = digits_unspaced (decimal n) digits };
      numeral = numeral_of (decimal n) filled digits;
      room = omega (arith, short);
    }
