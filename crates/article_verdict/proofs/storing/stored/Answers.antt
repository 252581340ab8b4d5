use Rattle.std.proofs.Common.{◌∙◌, subst, sym}
use Rattle.std.proofs.Math.Logic.{∥∥₁_map}
use Rattle.article_parse.specs.Article.{article_view}
use Rattle.news_terms.specs.ArticleTexts.{IsArticle}
use Rattle.article_verdict.proofs.StoredTexts.{stored_is_article}
use Rattle.article_verdict.proofs.storing.stored.Goals as goal

-- what is stored of an article is one
pub invariant_of-result-clause-is_article : goal.invariant_of-result-clause-is_article
invariant_of-result-clause-is_article c =
    let article = c.args.article.now in
    ∥∥₁_map article.is_article (λ is.
    subst IsArticle (sym (c.new.ensures ∙ c.in_ok-text.ensures))
    (stored_is_article c.args.config.now c.args.peer article.text.now (article_view article) is))
