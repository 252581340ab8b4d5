-- Moments in digits.
use Rattle.std.proofs.Common.{◌≡◌, ℕ, suc, ◌+◌, ◌*◌, ◌<◌, ◌≤◌, List, codes, refl, rules, arith}
use Rattle.std.proofs.Common.{pos, ◌+ℤ◌, ◌*ℤ◌, ◌-ℤ◌}
use Rattle.jiff_core.specs.Calendar.{IsCivilDate, days_from_civil}
use Rattle.jiff_core.specs.March.{march_days, march_months}
use Rattle.jiff_core.proofs.CalendarLemmas.{day_count-epoch}
use Rattle.jiff_core.proofs.MarchLemmas.{day_count-early, day_count-late}
use Rattle.jiff_core.proofs.SignedLemmas.{signed_arith}
use Rattle.news_terms.specs.Dates.{CivilTime, fourteen_digits}
use Rattle.news_terms.specs.Stamps.{IsStamp}

-- the digits of a moment whose date and time of day are given
shown : (now : ℕ) (t : CivilTime) (digits : List ℕ)
    → IsCivilDate (pos t.year) t.month t.day
    → (t.hour < 24) × (t.minute < 60) × (t.second < 60)
    → days_from_civil (pos t.year) t.month t.day *ℤ pos 86_400
    +ℤ pos (t.hour * 3600 + t.minute * 60 + t.second) ≡ pos now
    → digits ≡ fourteen_digits t
    → IsStamp now digits
shown now t digits date clock moment same = record {
  time = t;
  shown = record {
    is_date = date;
    is_hour = clock.0;
    is_minute = clock.1;
    is_second = clock.2;
    is_now = moment;
  };
  written = same;
}

-- a date and a time of the clock
at : (year month day hour minute second : ℕ) → CivilTime
at year month day hour minute second = record {
  year = year;
  month = month;
  day = day;
  hour = hour;
  minute = minute;
  second = second;
}

-- the day of a date before March, without counting years
early : (y m d : ℕ) → 1 ≤ m → m ≤ 2 → 1 ≤ d
    → days_from_civil (pos (y + 1)) m d
    ≡ pos (march_days (y + 10_000) + march_months (m + 12) + d + 59) -ℤ pos 4_371_953
unfolding days_from_civil
early y m d low high first =
    let of_year : pos (y + 1) +ℤ pos 10_000 ≡ pos (suc (y + 10_000)) =
    omega (arith, signed_arith) in
    rw (day_count-early (pos (y + 1)) (y + 10_000) m d of_year low high first)
    (rw day_count-epoch refl)

-- the day of a date from March on
late : (y m d : ℕ) → 3 ≤ m → m ≤ 12 → 1 ≤ d
    → days_from_civil (pos y) m d
    ≡ pos (march_days (y + 10_000) + march_months m + d + 59) -ℤ pos 4_371_953
unfolding days_from_civil
late y m d low high first =
    rw (day_count-late (pos y) (y + 10_000) m d refl low high first) (rw day_count-epoch refl)

-- the beginning of 1970
pub is_first : IsStamp 0 (codes "19700101000000")
unfolding at
is_first =
    let day : days_from_civil (pos 1970) 1 1 ≡ pos 0 =
    early 1969 1 1 (omega arith) (omega arith) (omega arith) in
    shown 0 (at 1970 1 1 0 0 0) _ (search rules) (search rules) (rw day refl) refl

-- the beginning of 2021
pub is_new_year : IsStamp 1609459200 (codes "20210101000000")
unfolding at
is_new_year =
    let day : days_from_civil (pos 2021) 1 1 ≡ pos 18_628 =
    early 2020 1 1 (omega arith) (omega arith) (omega arith) in
    shown 1609459200 (at 2021 1 1 0 0 0) _ (search rules) (search rules) (rw day refl) refl

-- the beginning of a leap day
pub is_leap_day : IsStamp 1709164800 (codes "20240229000000")
unfolding at
is_leap_day =
    let day : days_from_civil (pos 2024) 2 29 ≡ pos 19_782 =
    early 2023 2 29 (omega arith) (omega arith) (omega arith) in
    shown 1709164800 (at 2024 2 29 0 0 0) _ (search rules) (search rules) (rw day refl) refl

-- the last second of the year 9998
pub is_last : IsStamp 253370764799 (codes "99981231235959")
unfolding at
is_last =
    let day : days_from_civil (pos 9998) 12 31 ≡ pos 2_932_531 =
    late 9998 12 31 (omega arith) (omega arith) (omega arith) in
    shown 253370764799 (at 9998 12 31 23 59 59) _ (search rules) (search rules) (rw day refl) refl
