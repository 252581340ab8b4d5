-- Dates: what of a date's text is read, the window that an article's date lies in, and the digits
-- of a moment.
use Rattle.std.specs.Prelude.{ℕ, ◌+◌, ◌-◌, ◌/◌, ◌%◌, Bool, ◌&&◌, ◌||◌, List, [], ◌∷◌, ◌++◌, length}
use Rattle.std.specs.Prelude.{take, drop, ℤ, pos}
use Rattle.std.specs.Prelude.{◌+ℤ◌, Option, Some, None, unwrap_or, if◌then◌else◌, ◌==◌, nat_eq}
use Rattle.std.specs.Prelude.{not, int_lt, codes}
use Rattle.std.specs.List.{list_all, list_any, take_while, before_last, after_last, starts_with}
use Rattle.std.specs.List.{ends_with}
use Rattle.std.specs.Char.{is_ascii, is_ascii_alphabetic}
use Rattle.std.specs.Str.{byte, bytes_eq, str_to_ascii_lowercase}
use Rattle.news_terms.specs.Article.{Field, is_white, is_empty, first_content, content_or_empty}
use Rattle.news_terms.specs.Article.{name_of}
use Rattle.news_terms.specs.Article.{Date, InjectionDate, trimmed, without_outer_white}

-- the date that an article is judged by: Injection-Date, or else Date (RFC 5537, section 3.6)
abbrev pub judged_date : List Field → List ℕ
judged_date fields =
    unwrap_or (first_content (name_of InjectionDate) fields)
    (content_or_empty (name_of Date) fields)

-- the ASCII letters at the front of a text (RFC 5322, section 3.3, day-name)
abbrev pub day_name : List ℕ → List ℕ
day_name text = take_while is_ascii_alphabetic text

-- what follows the letters at the front of a text (RFC 5322, section 3.3, day-name)
abbrev pub after_day_name : List ℕ → List ℕ
after_day_name text = drop (length (day_name text)) text

-- a letter or more at the front, directly followed by a comma (RFC 5322, section 3.3, day-of-week)
abbrev pub has_day_name : List ℕ → Bool
has_day_name text =
    not (is_empty (day_name text)) && starts_with nat_eq (after_day_name text) (codes ",")

-- a date without the name of its day and the comma (docs/FORMATS.md, Dates)
abbrev pub without_day_name : List ℕ → List ℕ
without_day_name text =
    if has_day_name text then without_outer_white (drop 1 (after_day_name text)) else text

-- a date that ends with `)` without all from its last `(` on (docs/FORMATS.md, Dates)
abbrev pub without_comment : List ℕ → List ℕ
without_comment text =
    if ends_with nat_eq text (codes ")") && list_any (λ c. c == byte "(") text
    then without_outer_white (before_last (λ c. c == byte "(") text)
    else text

-- what stands behind the last SP or TAB (docs/FORMATS.md, Dates)
abbrev pub last_word : List ℕ → List ℕ
last_word text = after_last is_white text

-- a word for the zone of Greenwich, in any case (RFC 5322, section 4.3, obs-zone)
abbrev pub is_greenwich : List ℕ → Bool
is_greenwich word =
    bytes_eq (str_to_ascii_lowercase word) (codes "gmt")
    || bytes_eq (str_to_ascii_lowercase word) (codes "ut")
    || bytes_eq (str_to_ascii_lowercase word) (codes "utc")

-- a date with its zone as a number where a word for Greenwich ends it (docs/FORMATS.md, Dates)
abbrev pub with_numeric_zone : List ℕ → List ℕ
with_numeric_zone text =
    if is_greenwich (last_word text)
    then take (length text - length (last_word text)) text ++ codes "+0000"
    else text

-- the text of a date that a reader of RFC 5322 dates is given: of the trimmed content, without the
-- day's name, without a comment, with a numeric zone (docs/FORMATS.md, Dates)
abbrev pub date_text : List ℕ → List ℕ
date_text content = with_numeric_zone (without_comment (without_day_name (trimmed content)))

-- the same, where it is ASCII: else there is nothing to read (docs/FORMATS.md, Dates)
abbrev pub prepared_date : List ℕ → Option (List ℕ)
prepared_date content =
    if list_all is_ascii (date_text content) then Some (date_text content) else None

-- the faults of a date, in the order of trial (docs/FORMATS.md, Dates)
pub data DateFault : Type 0 where
  BadDate Future TooOld : DateFault

-- the seconds of a day, by which a date may be ahead (RFC 5537, section 3.6)
abbrev pub seconds_ahead : ℕ
seconds_ahead = 86400

-- more than a day after now (RFC 5537, section 3.6)
abbrev pub is_future : (now : ℕ) → (second : ℤ) → Bool
is_future now second = int_lt (pos (now + seconds_ahead)) second

-- more than the cutoff before now (RFC 5537, section 3.6)
abbrev pub is_too_old : (now cutoff : ℕ) → (second : ℤ) → Bool
is_too_old now cutoff second = int_lt (second +ℤ pos cutoff) (pos now)

-- the fault of a date, by the second that it reads as (RFC 5537, section 3.6)
abbrev pub date_fault : (now cutoff : ℕ) → Option ℤ → Option DateFault
date_fault now cutoff None = Some BadDate
date_fault now cutoff (Some second) =
    if is_future now second then Some Future
    else (if is_too_old now cutoff second then Some TooOld else None)

-- a date of the calendar and a time of the clock
pub record CivilTime : Type 0 where
  pub year : ℕ
  pub month : ℕ
  pub day : ℕ
  pub hour : ℕ
  pub minute : ℕ
  pub second : ℕ

-- the two decimal digits of a number below 100, with leading zeros (RFC 3977, section 7.1)
abbrev pub two_digits : ℕ → List ℕ
two_digits n = (byte "0" + n / 10) ∷ (byte "0" + n % 10) ∷ []

-- the four decimal digits of a number below 10,000, with leading zeros (RFC 3977, section 7.1)
abbrev pub four_digits : ℕ → List ℕ
four_digits n = two_digits (n / 100) ++ two_digits (n % 100)

-- the fourteen digits: year (4), month, day, hour, minute, second (2 each) (RFC 3977, section 7.1)
abbrev pub fourteen_digits : CivilTime → List ℕ
fourteen_digits t =
    four_digits t.year ++ two_digits t.month ++ two_digits t.day
    ++ two_digits t.hour ++ two_digits t.minute ++ two_digits t.second
