use Rattle.std.proofs.Common.{◌∙◌, sym}
use Rattle.news_terms.proofs.CivilTimes.{same_digits}
use Rattle.news_terms.proofs.dates.one_stamp.Goals as goal

pub returns : goal.returns
returns c =
    λ now a b g h. g.written ∙ same_digits now g.time h.time g.shown h.shown ∙ sym h.written
