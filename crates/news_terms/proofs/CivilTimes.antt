-- Two dates and times of day of one moment are the same.
use Rattle.std.proofs.Common.{◌≡◌, ℕ, refl, arith, pos}
use Rattle.jiff_core.specs.declared.civil.date.Date.{Date}
use Rattle.jiff_core.specs.Date.{epoch_day}
use Rattle.jiff_core.proofs.SignedLemmas.{signed_arith}
use Rattle.jiff_core.proofs.DateLemmas.{epoch_day_injective}
use Rattle.news_terms.specs.Dates.{CivilTime, fourteen_digits}
use Rattle.news_terms.specs.Stamps.{IsCivilTimeOf}

-- the date of a moment
date_of : (now : ℕ) (t : CivilTime) → IsCivilTimeOf now t → Date
date_of now t h = record {
  year = pos t.year;
  month = t.month;
  day = t.day;
  year_in = h.is_date.0;
  month_in = h.is_date.1;
  day_in = h.is_date.2;
}

-- two dates and times of day of one moment have the same digits
pub same_digits : (now : ℕ) (a b : CivilTime) → IsCivilTimeOf now a → IsCivilTimeOf now b
    → fourteen_digits a ≡ fourteen_digits b
unfolding date_of
same_digits now a b g h =
    let a_now = g.is_now in
    let b_now = h.is_now in
    let a_hour = g.is_hour in
    let a_minute = g.is_minute in
    let a_second = g.is_second in
    let b_hour = h.is_hour in
    let b_minute = h.is_minute in
    let b_second = h.is_second in
    let days : epoch_day (date_of now a g) ≡ epoch_day (date_of now b h) =
    omega (arith, signed_arith, a_now, b_now) in
    let date = epoch_day_injective (date_of now a g) (date_of now b h) days in
    let year : a.year ≡ b.year = omega (arith, signed_arith, date.0) in
    let month : a.month ≡ b.month = date.1 in
    let day : a.day ≡ b.day = date.2 in
    let hour : a.hour ≡ b.hour = omega (arith, signed_arith, a_now, b_now, days) in
    let minute : a.minute ≡ b.minute = omega (arith, signed_arith, a_now, b_now, days) in
    let second : a.second ≡ b.second = omega (arith, signed_arith, a_now, b_now, days) in
    rw (year, month, day, hour, minute, second) refl
