use Rattle.news_terms.proofs.ArticleReadings.{one_article}
use Rattle.news_terms.proofs.articles.one_reading.Goals as goal

pub returns : goal.returns
returns c = one_article
