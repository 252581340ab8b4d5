-- Dates and times of day of moments from the first of 1970 on.
use Rattle.std.proofs.Common.{◌≡◌, ℕ, sym, subst, arith}
use Rattle.std.proofs.Common.{ℤ, pos, ◌*ℤ◌, ◌≤ℤ◌}
use Rattle.std.specs.Prelude.{unsigned_abs}
use Rattle.std.proofs.lemmas.Int.{by_lt_z}
use Rattle.jiff_core.specs.declared.civil.date.Date.{Date}
use Rattle.jiff_core.specs.declared.civil.datetime.DateTime.{DateTime}
use Rattle.jiff_core.specs.Calendar.{IsCivilDate}
use Rattle.jiff_core.specs.Date.{epoch_day}
use Rattle.jiff_core.specs.DateTime.{civil_nanos}
use Rattle.jiff_core.proofs.SignedLemmas.{signed_arith, unsigned_abs-parts, one_part}
use Rattle.jiff_core.proofs.CalendarLemmas.{day_count-epoch, days_from_civil-day_count}
use Rattle.jiff_core.proofs.CalendarLemmas.{day_count-lt_year}
use Rattle.jiff_core.proofs.DateLemmas.{civil}
use Rattle.jiff_core.proofs.DateTimeLemmas.{civil_nanos-parts, time_nanos_bound}
use Rattle.news_terms.specs.Stamps.{IsCivilTimeOf}
use Rattle.date_rules.specs.Stamps.{civil_time}

-- a date that is not before the first of 1970 is of no year before it
pub year_from_1970 : (d : Date) → pos 0 ≤ℤ epoch_day d → pos 1970 ≤ℤ d.year
year_from_1970 d h =
    by_lt_z d.year (pos 1970)
    (λ lt. absurd (omega (
      arith,
      signed_arith,
      days_from_civil-day_count,
      day_count-epoch,
      day_count-lt_year d.year d.month d.day (pos 1970) 1 1 (civil d) (omega arith) lt,
    )))
    (λ ge. ge)

-- such a year is its own size
pub size_of_year : (y : ℤ) → pos 1970 ≤ℤ y → pos (unsigned_abs y) ≡ y
size_of_year y h = omega (arith, signed_arith, unsigned_abs-parts y, one_part y)

-- a datetime that many seconds after the first of 1970 is the date and time of day of that moment
pub civil_time_of : (now : ℕ) (d : DateTime) → civil_nanos d ≡ pos now *ℤ pos 1_000_000_000
    → IsCivilTimeOf now (civil_time d)
civil_time_of now d e =
    let parts = civil_nanos-parts d in
    let within = time_nanos_bound d.time in
    let from : pos 0 ≤ℤ epoch_day d.date = omega (arith, signed_arith, parts, within, e) in
    let year = size_of_year d.date.year (year_from_1970 d.date from) in
    record {
      is_date = subst (λ (y : ℤ). IsCivilDate y d.date.month d.date.day) (sym year) (civil d.date);
      is_hour = d.time.hour_in;
      is_minute = d.time.minute_in;
      is_second = d.time.second_in;
      is_now = rw year (omega (arith, signed_arith, parts, e));
    }
