use Rattle.std.proofs.Common.{◌≡◌}
use Rattle.std.proofs.Math.Logic.{∥∥₁_elim}
use Rattle.std.proofs.Props.{props}
use Rattle.news_terms.specs.Article.{article_text}
use Rattle.article_parse.specs.Article.{article_view}
use Rattle.article_parse.proofs.article.Article.text.Goals as goal

-- the text is spelled as the article is
pub returns : goal.returns
returns c =
    let self = c.args.self.now in
    let one : IsProp (self.text.now ≡ article_text (article_view self)) = hlevel props in
    ∥∥₁_elim self.is_article one (λ is. is.laid_out.spelled)
