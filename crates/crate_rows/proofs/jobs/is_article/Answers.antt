use Rattle.article_parse.specs.Article.{article_view}
use Rattle.crate_rows.proofs.jobs.is_article.Goals as goal

pub returns-in-Ok-clause-article : goal.returns-in-Ok-clause-article
returns-in-Ok-clause-article c =
    λ _. ∣ (article_view c.in-Ok.article, c.in-Ok.ensures.read.article) ∣₁
