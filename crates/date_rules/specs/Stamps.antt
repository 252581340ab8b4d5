-- What the calendar's and the clock's values stand for in the digits of a moment.
use Rattle.std.specs.Prelude.{unsigned_abs}
use Rattle.jiff_core.specs.declared.civil.datetime.DateTime.{DateTime}
use Rattle.news_terms.specs.Dates.{CivilTime}

-- what the calendar and the clock show, of a year that is not negative.
-- No public contract cites it.
abbrev pub civil_time : DateTime → CivilTime
civil_time d = record {
  year = unsigned_abs d.date.year;
  month = d.date.month;
  day = d.date.day;
  hour = d.time.hour;
  minute = d.time.minute;
  second = d.time.second;
}
