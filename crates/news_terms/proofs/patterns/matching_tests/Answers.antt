use Rattle.news_terms.proofs.Matching.{matches-true, true_matches}
use Rattle.news_terms.proofs.patterns.matching_tests.Goals as goal

pub returns : goal.returns
returns c pattern name = (matches-true pattern name, true_matches pattern name)
