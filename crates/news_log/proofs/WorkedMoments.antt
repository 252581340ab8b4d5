-- Worked moments in digits.
use Rattle.std.proofs.Common.{◌≡◌, ℕ, ◌+◌, ◌*◌, ◌<◌, ◌≤◌, List, codes, refl, rules, arith}
use Rattle.std.proofs.Common.{pos, ◌+ℤ◌, ◌*ℤ◌, ◌-ℤ◌}
use Rattle.jiff_core.specs.Calendar.{IsCivilDate, days_from_civil}
use Rattle.jiff_core.specs.March.{march_days, march_months}
use Rattle.jiff_core.proofs.CalendarLemmas.{day_count-epoch}
use Rattle.jiff_core.proofs.MarchLemmas.{day_count-late}
use Rattle.news_terms.specs.Dates.{CivilTime, fourteen_digits}
use Rattle.news_terms.specs.Stamps.{IsStamp}

-- the digits of a moment whose date and time of day are given
shown : (now : ℕ) (t : CivilTime) (digits : List ℕ)
    → IsCivilDate (pos t.year) t.month t.day
    → (t.hour < 24) × (t.minute < 60) × (t.second < 60)
    → days_from_civil (pos t.year) t.month t.day *ℤ pos 86_400
    +ℤ pos (t.hour * 3600 + t.minute * 60 + t.second) ≡ pos now
    → digits ≡ fourteen_digits t
    → IsStamp now digits
shown now t digits date clock moment same = record {
  time = t;
  shown = record {
    is_date = date;
    is_hour = clock.0;
    is_minute = clock.1;
    is_second = clock.2;
    is_now = moment;
  };
  written = same;
}

-- a date and a time of the clock
at : (year month day hour minute second : ℕ) → CivilTime
at year month day hour minute second = record {
  year = year;
  month = month;
  day = day;
  hour = hour;
  minute = minute;
  second = second;
}

-- the day of a date from March on, without counting years
late : (y m d : ℕ) → 3 ≤ m → m ≤ 12 → 1 ≤ d
    → days_from_civil (pos y) m d
    ≡ pos (march_days (y + 10_000) + march_months m + d + 59) -ℤ pos 4_371_953
unfolding days_from_civil
late y m d low high first =
    rw (day_count-late (pos y) (y + 10_000) m d refl low high first) (rw day_count-epoch refl)

-- that of the worked refusal
pub is_refusal : IsStamp 1795955696 (codes "20261129123456")
unfolding at
is_refusal =
    let day : days_from_civil (pos 2026) 11 29 ≡ pos 20_786 =
    late 2026 11 29 (omega arith) (omega arith) (omega arith) in
    shown 1795955696 (at 2026 11 29 12 34 56) _ (search rules) (search rules) (rw day refl) refl

-- that of the worked acceptance
pub is_acceptance : IsStamp 1793840523 (codes "20261105010203")
unfolding at
is_acceptance =
    let day : days_from_civil (pos 2026) 11 5 ≡ pos 20_762 =
    late 2026 11 5 (omega arith) (omega arith) (omega arith) in
    shown 1793840523 (at 2026 11 5 1 2 3) _ (search rules) (search rules) (rw day refl) refl

-- the last second of 2026
pub is_last_of_year : IsStamp 1798761599 (codes "20261231235959")
unfolding at
is_last_of_year =
    let day : days_from_civil (pos 2026) 12 31 ≡ pos 20_818 =
    late 2026 12 31 (omega arith) (omega arith) (omega arith) in
    shown 1798761599 (at 2026 12 31 23 59 59) _ (search rules) (search rules) (rw day refl) refl
