use Rattle.std.proofs.Common.{subst, sym}
use Rattle.news_terms.specs.ArticleTexts.{IsArticle}
use Rattle.relay_live.proofs.keeper.Keeper.write.Goals as goal

-- the text of an accepted article is one, by its type
pub store-stored-requires-clause-article : goal.store-stored-requires-clause-article
store-stored-requires-clause-article g c =
    subst (λ text. ∥ IsArticle text ∥₁) (sym c.as_vec-text.ensures) c.args.article.now.is_article
