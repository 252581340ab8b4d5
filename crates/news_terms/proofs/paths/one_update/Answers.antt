use Rattle.std.proofs.Common.{sym, ap, ◌∙◌}
use Rattle.news_terms.specs.Article.{Article, article_text}
use Rattle.news_terms.specs.Path.{updated_article}
use Rattle.news_terms.proofs.ArticleReadings.{one_article}
use Rattle.news_terms.proofs.paths.one_update.Goals as goal

pub returns : goal.returns
returns c own expected t u v hu hv =
    let same = one_article t hu.received hv.received hu.read.laid_out hv.read.laid_out in
    hu.written ∙ ap (λ (x : Article). article_text (updated_article own expected x)) same
    ∙ sym hv.written
