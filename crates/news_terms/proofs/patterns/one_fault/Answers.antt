use Rattle.news_terms.proofs.LeftmostFaults.{one_fault}
use Rattle.news_terms.proofs.patterns.one_fault.Goals as goal

pub returns : goal.returns
returns c text a b = one_fault text a b
