-- Hundredths of a whole.
use Rattle.std.proofs.Common.{◌≡◌, ◌*◌, ◌/◌, ◌<◌, ◌≤◌, ◌==◌, ℕ, Bool, true, false, Some, None}
use Rattle.std.proofs.Common.{ap, arith, refl, subst}
use Rattle.std.proofs.Math.Nat.{div-lt_iff_lt-mul, div-mul-le_self, lt-div-mul-add}
use Rattle.std.proofs.lemmas.Bool.{le-leb, leb-false, leb-true, ne_eqb}
use Rattle.std.specs.Prelude.{nat_le, unwrap_or, if◌then◌else◌}
use Rattle.relay_page.specs.Bars.{hundredths}
use Rattle.relay_page.specs.Laws.{AreHundredths}

-- What holds of all hundredths and of those of a lesser part holds of those that there are.
by_cases : (P : ℕ → Type 0) (zero full : Bool) (share wide : ℕ) → (full ≡ true → P 100)
    → (full ≡ false → P share)
    → (if zero then None else if full then Some 100 else Some share) ≡ Some wide → P wide
by_cases P true full share wide all some is = cc
by_cases P false true share wide all some is =
    subst P (ap (λ o. unwrap_or o 0) is) (all refl)
by_cases P false false share wide all some is =
    subst P (ap (λ o. unwrap_or o 0) is) (some refl)

-- There are no more than a hundred,
pub at_most : (part whole wide : ℕ) → hundredths part whole ≡ Some wide → wide ≤ 100
at_most part whole wide is =
    by_cases (λ (h : ℕ). h ≤ 100) (whole == 0) (nat_le whole part) (part * 100 / whole) wide
    (λ full. omega arith) (λ full. less (leb-false whole part full)) is
  where
    less : part < whole → part * 100 / whole ≤ 100
    less is_less =
        let some : 0 < whole = omega (arith, is_less) in
        let fewer = (div-lt_iff_lt-mul {k = whole} {x = part * 100} {y = 100} some).1
        (omega (arith, is_less)) in
        omega (arith, fewer)

-- and they are those of a lesser part.
pub right : (part whole wide : ℕ) → hundredths part whole ≡ Some wide → part < whole
    → AreHundredths part whole wide
right part whole wide is less =
    by_cases (AreHundredths part whole) (whole == 0) (nat_le whole part) (part * 100 / whole) wide
    (λ full. absurd (omega (arith, leb-true whole part full, less)))
    (λ full. record {
      least = div-mul-le_self (part * 100) whole;
      most = lt-div-mul-add {a = part * 100} {b = whole} (omega (arith, less));
    }) is

-- A part that is no less than the whole is all of it.
pub all : (part whole : ℕ) → 0 < whole → whole ≤ part → hundredths part whole ≡ Some 100
all part whole some is = rw (ne_eqb whole 0 (omega (arith, some)), le-leb whole part is) refl
