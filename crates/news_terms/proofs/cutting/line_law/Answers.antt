-- A line is what its own CRLF cuts.
use Rattle.std.proofs.Common.{◌++◌, []}
use Rattle.news_terms.specs.Lines.{crlf}
use Rattle.news_terms.proofs.LineLemmas.{CutsLine-from_first, first_line-cuts}
use Rattle.news_terms.proofs.RestLemmas.{line_ends_last, IsLine-from_last}
use Rattle.news_terms.proofs.cutting.line_law.Goals as goal

pub returns-clause-cut : goal.returns-clause-cut
returns-clause-cut c = λ l. (CutsLine-from_first (l ++ crlf) l [], first_line-cuts (l ++ crlf) l [])

pub returns-clause-last : goal.returns-clause-last
returns-clause-last c = λ l. (λ h front after. line_ends_last l front after h, IsLine-from_last l)
