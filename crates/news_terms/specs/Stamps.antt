-- The digits that DATE tells of a moment (RFC 3977, section 7.1).
use Rattle.std.specs.Prelude.{◌≡◌, ℕ, ◌+◌, ◌*◌, ◌<◌, List, pos, ◌+ℤ◌, ◌*ℤ◌}
use Rattle.jiff_core.specs.Calendar.{IsCivilDate, days_from_civil}
use Rattle.news_terms.specs.Dates.{CivilTime, fourteen_digits}

-- the calendar has this date and the clock in UTC shows this time, that many seconds after the
-- first of 1970, in days of 86,400 seconds
pub record IsCivilTimeOf (now : ℕ) (t : CivilTime) : Type 0 where
  pub is_date : IsCivilDate (pos t.year) t.month t.day
  pub is_hour : t.hour < 24
  pub is_minute : t.minute < 60
  pub is_second : t.second < 60
  pub is_now : days_from_civil (pos t.year) t.month t.day *ℤ pos 86_400
      +ℤ pos (t.hour * 3600 + t.minute * 60 + t.second) ≡ pos now

-- the digits are the fourteen of this moment in UTC (RFC 3977, section 7.1)
pub record IsStamp (now : ℕ) (digits : List ℕ) : Type 0 where
  pub time : CivilTime
  pub shown : IsCivilTimeOf now time
  pub written : digits ≡ fourteen_digits time
