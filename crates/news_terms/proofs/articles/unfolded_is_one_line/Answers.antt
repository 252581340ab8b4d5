use Rattle.news_terms.proofs.UnfoldedLines.{laid_out_unfolds}
use Rattle.news_terms.proofs.articles.unfolded_is_one_line.Goals as goal

pub returns : goal.returns
returns c = laid_out_unfolds
