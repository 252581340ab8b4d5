use Rattle.std.proofs.Common.{◌<◌, ◌^◌, ℕ, List, length, subst, sym, ◌∙◌}
use Rattle.news_terms.specs.ArticleTexts.{IsArticle}
use Rattle.crate_rows.proofs.jobs.accepted.Goals as goal

pub invariant_of-result : goal.invariant_of-result
invariant_of-result c =
    let same = sym (c.new-2.ensures ∙ sym c.deref.ensures.value) in
    let is = c.is_article.ensures in
    record {
      has_length = subst (λ (x : List ℕ). length x < 2 ^ 32) same
          (is.length c.if-not-is_article.false);
      is_article = subst (λ (x : List ℕ). ∥ IsArticle x ∥₁) same
          (is.article c.if-not-is_article.false);
    }
