use Rattle.news_terms.proofs.ExpressionReadings as readings
use Rattle.news_terms.proofs.patterns.one_expression.Goals as goal

pub returns : goal.returns
returns c = readings.one_expression
