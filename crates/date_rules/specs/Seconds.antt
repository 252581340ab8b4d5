-- The second of a date, and what is said of it (RFC 5537, section 3.6; docs/FORMATS.md, Dates).
use Rattle.std.specs.Prelude.{◌≡◌, ℕ, ℤ, pos, false, List, Option, None, Some, Result, Ok, Err}
use Rattle.std.specs.Prelude.{if◌then◌else◌}
use Rattle.std.specs.Int.{int_div_euclid}
use Rattle.std.specs.List.{list_all}
use Rattle.std.specs.Char.{is_ascii}
use Rattle.jiff_core.specs.declared.error.Error.{Error}
use Rattle.jiff_fmt.specs.Rfc2822.{timestamp}
use Rattle.news_terms.specs.Dates.{prepared_date, date_fault}
use Rattle.news_terms.specs.Dates as terms
use Rattle.date_rules.specs.declared.window.DateError.{DateError}
use Rattle.date_rules.specs.declared.window.DateError.TheVariants.{Memory, BadDate, Future, TooOld}

-- the whole second of a moment in nanoseconds, rounded down
abbrev pub whole_second : Result ℤ Error → Option ℤ
whole_second (Ok nanoseconds) = Some (int_div_euclid nanoseconds (pos 1_000_000_000))
whole_second (Err refusal) = None

-- the second that a reader of RFC 5322 dates reads a text as; the name of a day would have to be
-- right
abbrev pub second_read : List ℕ → Option ℤ
second_read text = whole_second (timestamp false text)

-- the second of a prepared text: none where it is not ASCII
abbrev pub second_in : List ℕ → Option ℤ
second_in text = if list_all is_ascii text then second_read text else None

-- the second of what was prepared, if anything was
abbrev pub second_prepared : Option (List ℕ) → Option ℤ
second_prepared None = None
second_prepared (Some text) = second_read text

-- the second that a date's content reads as (docs/FORMATS.md, Dates)
abbrev pub second_of : List ℕ → Option ℤ
second_of content = second_prepared (prepared_date content)

-- the answer is the fault of the date in the window, unless memory ran out
abbrev pub JudgedAs : (now cutoff : ℕ) → Option ℤ → Result (Unit {0}) DateError → Type 0
JudgedAs now cutoff second (Ok _) = date_fault now cutoff second ≡ None
JudgedAs now cutoff second (Err Memory) = Unit {0}
JudgedAs now cutoff second (Err BadDate) = date_fault now cutoff second ≡ Some terms.BadDate
JudgedAs now cutoff second (Err Future) = date_fault now cutoff second ≡ Some terms.Future
JudgedAs now cutoff second (Err TooOld) = date_fault now cutoff second ≡ Some terms.TooOld
