-- The verdict on a text, by whether it was read.
use Rattle.std.proofs.Common.{◌≡◌, ℕ, List, Option, Some, Result, Ok, Err, refl}
use Rattle.std.specs.Prelude.{IfOk}
use Rattle.article_parse.specs.Faults.{IsFaultOf, name_view}
use Rattle.article_parse.specs.declared.faults.ArtError.{ArtError}
use Rattle.article_parse.specs.declared.faults.ArtError.TheVariants as errors
use Rattle.buffer_group.specs.declared.job.Accepted.{Accepted}
use Rattle.news_terms.specs.Article.{Article, IsArticleText}
use Rattle.news_terms.specs.Article as terms
use Rattle.news_terms.proofs.ArticleFaults.{article_without_fault}
use Rattle.relay_model.specs.Judging.{Judges, IsRead, judged}
use Rattle.relay_model.specs.Terms.{Terms}
use Rattle.article_verdict.specs.Verdict.{verdict_view}
use Rattle.article_verdict.specs.declared.reasons.Reason.{Reason}

-- an article that was read is judged
pub read_judged : {E : Type 0} (w : Terms) (from : ℕ) (id : List ℕ) (now : ℕ)
    (text : Option (List ℕ)) (octets : List ℕ) (a : Article)
    → text ≡ Some octets → IsArticleText octets a
    → (r : Result (Result Accepted Reason) E)
    → IfOk r (λ verdict. verdict_view verdict ≡ judged w from id now a)
    → IfOk r (λ verdict. Judges w from id now text (verdict_view verdict))
read_judged w from id now text octets a some is (Ok verdict) e = IsRead octets a some is e
read_judged w from id now text octets a some is (Err error) e = tt

-- a text that has a fault is no article
pub no_article : (text : List ℕ) (error : ArtError) → (error ≡ errors.Memory → ⊥)
    → IsFaultOf text error → (a : Article) → ¬ IsArticleText text a
no_article text errors.Memory other fault a = absurd (other refl)
no_article text errors.NoBlankLine other fault a =
    λ is. article_without_fault text a terms.NoBlankLine is fault
no_article text errors.BadHeader other fault a =
    λ is. article_without_fault text a terms.BadHeader is fault
no_article text errors.BareCrLf other fault a =
    λ is. article_without_fault text a terms.BareCrLf is fault
no_article text errors.Nul other fault a =
    λ is. article_without_fault text a terms.Nul is fault
no_article text (errors.Missing name) other fault a =
    λ is. article_without_fault text a (terms.Missing (name_view name)) is fault
no_article text (errors.Twice name) other fault a =
    λ is. article_without_fault text a (terms.Twice (name_view name)) is fault
no_article text (errors.EmptyField name) other fault a =
    λ is. article_without_fault text a (terms.EmptyField (name_view name)) is fault
no_article text errors.BadId other fault a =
    λ is. article_without_fault text a terms.BadId is fault
no_article text errors.BadGroups other fault a =
    λ is. article_without_fault text a terms.BadGroups is fault
