use Rattle.news_terms.proofs.ExpressionFaults as faults
use Rattle.news_terms.proofs.patterns.expression_without_fault.Goals as goal

pub returns : goal.returns
returns c = faults.expression_without_fault
