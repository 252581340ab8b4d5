use Rattle.std.proofs.Common.{sym, subst}
use Rattle.news_terms.specs.Article.{IsArticleText}
use Rattle.news_terms.specs.Path.{updated_article}
use Rattle.news_terms.proofs.UpdatedArticles.{updated_is_article}
use Rattle.path_rules.proofs.update.update_parses.Goals as goal

pub returns : goal.returns
returns c = λ own expected text update own_agent expected_agent is_update. (
  is_update.received,
  is_update.read,
  subst (λ x. IsArticleText x (updated_article own expected is_update.received))
      (sym is_update.written)
      (updated_is_article own expected text is_update.received own_agent expected_agent
      is_update.read),
)
