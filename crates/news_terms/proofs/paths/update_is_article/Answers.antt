use Rattle.news_terms.proofs.UpdatedArticles.{updated_is_article}
use Rattle.news_terms.proofs.paths.update_is_article.Goals as goal

pub returns : goal.returns
returns c = updated_is_article
