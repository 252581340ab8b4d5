use Rattle.std.proofs.Common.{subst, sym}
use Rattle.news_terms.specs.ArticleTexts.{IsArticle}
use Rattle.live_store.proofs.writing.entering.Record.enter_once.Goals as goal

pub invariant_of-record : goal.invariant_of-record
invariant_of-record g c = record {
  is_article = subst (λ x. ∥ IsArticle x.items ∥₁) (sym c.of-2.ensures) c.requires.article;
}
