use Rattle.std.proofs.Common.{◌∙◌, ap, sym, List, ℕ}
use Rattle.news_terms.proofs.CivilTimes.{same_digits}
use Rattle.news_log.specs.Lines.{news_stamp}
use Rattle.news_log.proofs.laws.one_text.Goals as goal

-- its second has one row of digits
pub returns : goal.returns
returns c = λ moment one other is also.
    let a = is.of_second in
    let b = also.of_second in
    is.written
    ∙ ap (λ (digits : List ℕ). news_stamp digits moment.millis)
    (a.written ∙ same_digits moment.second a.time b.time a.shown b.shown ∙ sym b.written)
    ∙ sym also.written
