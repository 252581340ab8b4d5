-- What LineLemmas and RestLemmas say of the first line.
use Rattle.news_terms.proofs.LineLemmas.{CutsLine-from_first, first_line-cuts, first_line-none}
use Rattle.news_terms.proofs.LineLemmas.{no_first_line}
use Rattle.news_terms.proofs.RestLemmas.{first_line-append}
use Rattle.news_terms.proofs.cutting.first_line_law.Goals as goal

pub returns-clause-exact : goal.returns-clause-exact
returns-clause-exact c = λ s l r. (CutsLine-from_first s l r, first_line-cuts s l r)

pub returns-clause-none : goal.returns-clause-none
returns-clause-none c = λ s. (λ none l r cut. no_first_line s l r none cut.whole, first_line-none s)

pub returns-clause-grows : goal.returns-clause-grows
returns-clause-grows c = first_line-append
