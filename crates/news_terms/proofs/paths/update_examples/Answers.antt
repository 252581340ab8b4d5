-- The update of the worked article, read and written.
use Rattle.std.proofs.Common.{refl}
use Rattle.news_terms.proofs.WorkedArticles.{worked, worked_is_article}
use Rattle.news_terms.proofs.paths.update_examples.Goals as goal

pub returns-clause-whole_text : goal.returns-clause-whole_text
returns-clause-whole_text c = record {
  received = worked;
  read = worked_is_article;
  written = refl;
}
