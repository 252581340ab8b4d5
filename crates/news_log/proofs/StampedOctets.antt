-- How a line begins with the digits of a moment.
use Rattle.std.proofs.Common.{◌≡◌, ◌∙◌, ◌∷◌, ◌++◌, [], ◌+◌, ◌*◌, ◌-◌, ◌<◌, ℕ, suc}
use Rattle.std.proofs.Common.{zero, List, ap, arith, codes, drop, length, refl, slice_index_or}
use Rattle.std.proofs.Common.{get_or, subst, sym, take}
use Rattle.std.proofs.lemmas.Grind.{common_steps}
use Rattle.std.specs.Str.Parse.{digits_value}
use Rattle.news_terms.specs.Stamps.{IsStamp}
use Rattle.news_log.specs.Digits.{HasMonth, month_of, spaced_digit}
use Rattle.news_log.specs.Lines.{clock_text, month_names, month_text, news_stamp, three_digits}
use Rattle.news_log.specs.Lines.{two_behind, with_space}

-- two elements of a list, behind so many of them
two_at : (xs : List ℕ) (k : ℕ) → suc k < length xs
    → take 2 (drop k xs) ≡ slice_index_or xs k 0 ∷ slice_index_or xs (suc k) 0 ∷ []
two_at [] k h = absurd (omega arith)
two_at (x ∷ []) zero h = absurd (omega arith)
two_at (x ∷ y ∷ xs) zero h = refl
two_at (x ∷ xs) (suc k) h = two_at xs k (omega arith)

-- a list of three is its elements
three_of : (xs : List ℕ) → length xs ≡ 3
    → slice_index_or xs 0 0 ∷ slice_index_or xs 1 0 ∷ slice_index_or xs 2 0 ∷ [] ≡ xs
three_of [] h = absurd (omega arith)
three_of (x ∷ []) h = absurd (omega arith)
three_of (x ∷ y ∷ []) h = absurd (omega arith)
three_of (x ∷ y ∷ z ∷ []) h = refl
three_of (x ∷ y ∷ z ∷ w ∷ xs) h = absurd (omega arith)

-- the month's name is that of its two digits
month_is : (digits : List ℕ) → length digits ≡ 14 → HasMonth digits
    → month_of (slice_index_or digits 4 0) (slice_index_or digits 5 0) ≡ month_text digits
month_is digits long has =
    let tens = slice_index_or digits 4 0 in
    let ones = slice_index_or digits 5 0 in
    let value : (tens - 48) * 10 + (ones - 48) ≡ digits_value 10 (tens ∷ ones ∷ []) =
    grind (arith, common_steps) in
    ap (λ (n : ℕ). get_or month_names (n - 1) [])
    (value ∙ ap (digits_value 10) (sym (two_at digits 4 (omega arith))))

-- the octets of a line's beginning are those of the moment
pub stamp_is : (digits : List ℕ) (millis : ℕ) (month thousandths : List ℕ) (day : ℕ)
    → length digits ≡ 14 → length month ≡ 3 → HasMonth digits
    → month ≡ month_of (slice_index_or digits 4 0) (slice_index_or digits 5 0)
    → thousandths ≡ three_digits millis → day ≡ spaced_digit (slice_index_or digits 6 0)
    → slice_index_or month 0 0 ∷ slice_index_or month 1 0 ∷ slice_index_or month 2 0 ∷ 32 ∷ day
    ∷ slice_index_or digits 7 0 ∷ 32 ∷ slice_index_or digits 8 0 ∷ slice_index_or digits 9 0
    ∷ 58 ∷ slice_index_or digits 10 0 ∷ slice_index_or digits 11 0 ∷ 58
    ∷ slice_index_or digits 12 0 ∷ slice_index_or digits 13 0 ∷ 46
    ∷ slice_index_or thousandths 0 0 ∷ slice_index_or thousandths 1 0
    ∷ slice_index_or thousandths 2 0 ∷ []
    ≡ news_stamp digits millis
stamp_is digits millis month thousandths day long three has named shown spaced =
    let rest : List ℕ =
    32 ∷ day ∷ slice_index_or digits 7 0 ∷ 32 ∷ slice_index_or digits 8 0
    ∷ slice_index_or digits 9 0 ∷ 58 ∷ slice_index_or digits 10 0 ∷ slice_index_or digits 11 0
    ∷ 58 ∷ slice_index_or digits 12 0 ∷ slice_index_or digits 13 0 ∷ 46
    ∷ slice_index_or thousandths 0 0 ∷ slice_index_or thousandths 1 0
    ∷ slice_index_or thousandths 2 0 ∷ [] in
    let tail : List ℕ =
    codes " " ++ (with_space (two_behind 6 digits) ++ (codes " "
    ++ (clock_text digits ++ (codes "." ++ three_digits millis)))) in
    let same : rest ≡ tail =
    rw (
      shown,
      spaced,
      two_at digits 6 (omega arith),
      two_at digits 8 (omega arith),
      two_at digits 10 (omega arith),
      two_at digits 12 (omega arith),
    ) in
    ap (λ (m : List ℕ). m ++ rest) (three_of month three ∙ named ∙ month_is digits long has)
    ∙ ap (λ (o : List ℕ). month_text digits ++ o) same

-- the digits of a moment have those of a month
pub has_month : (now : ℕ) (digits : List ℕ) → IsStamp now digits → HasMonth digits
has_month now digits is =
    let least = is.shown.is_date.1 in
    subst HasMonth (sym is.written) (record {
      tens_least = omega arith;
      ones_least = omega arith;
      ones_most = omega arith;
      least = omega arith;
      most = omega arith;
    })
