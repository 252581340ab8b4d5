use Rattle.news_terms.proofs.NextLemmas.{next_line-append, too_long-append}
use Rattle.news_terms.proofs.cutting.next_line_grows.Goals as goal

pub returns-clause-cut : goal.returns-clause-cut
returns-clause-cut c = next_line-append

pub returns-clause-too_long : goal.returns-clause-too_long
returns-clause-too_long c = too_long-append
