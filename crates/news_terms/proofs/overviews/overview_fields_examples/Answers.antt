-- The numbers of the lines, written out.
use Rattle.std.proofs.Common.{refl}
use Rattle.std.specs.Fmt.{digits}
use Rattle.news_terms.proofs.overviews.overview_fields_examples.Goals as goal

pub returns-clause-own_fields : goal.returns-clause-own_fields
unfolding digits
returns-clause-own_fields c = refl

pub returns-clause-no_fields : goal.returns-clause-no_fields
unfolding digits
returns-clause-no_fields c = refl
