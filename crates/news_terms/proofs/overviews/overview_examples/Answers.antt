-- The numbers of the line, written out.
use Rattle.std.proofs.Common.{refl}
use Rattle.std.specs.Fmt.{digits}
use Rattle.news_terms.proofs.overviews.overview_examples.Goals as goal

pub returns-clause-worked : goal.returns-clause-worked
unfolding digits
returns-clause-worked c = refl
