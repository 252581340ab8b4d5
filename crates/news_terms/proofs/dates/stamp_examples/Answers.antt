use Rattle.news_terms.proofs.Moments.{is_first, is_new_year, is_leap_day, is_last}
use Rattle.news_terms.proofs.dates.stamp_examples.Goals as goal

pub returns : goal.returns
returns c =
    record { first = is_first; new_year = is_new_year; leap_day = is_leap_day; last = is_last }
