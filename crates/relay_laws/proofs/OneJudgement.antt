-- A block has one judgement at most, since a text is laid out as one article at most, and is never
-- without one.
use Rattle.std.proofs.Common.{◌≡◌, ◌∙◌, ℕ, List, Option, None, Some, Result, Err, refl, sym, ap}
use Rattle.std.proofs.Common.{subst}
use Rattle.std.proofs.lemmas.Option.{none-some, same_Some}
use Rattle.news_terms.specs.Article.{Article, IsArticleText}
use Rattle.news_terms.proofs.ArticleReadings.{one_article}
use Rattle.relay_model.specs.Claims.{Accepted}
use Rattle.relay_model.specs.Judging.{Judges, IsOversize, IsNone, IsRead, judged}
use Rattle.relay_model.specs.Terms.{Terms, Reason, Size, Grammar}

-- two judgements are one
pub one_judgement : (w : Terms) (from : ℕ) (id : List ℕ) (now : ℕ) (text : Option (List ℕ))
    (one other : Result Accepted Reason) → Judges w from id now text one
    → Judges w from id now text other → one ≡ other
one_judgement w from id now text one other (IsOversize none is) (IsOversize too was) =
    is ∙ sym was
one_judgement w from id now text one other (IsOversize none is) (IsNone octets some unread was) =
    absurd (none-some octets (sym none ∙ some))
one_judgement w from id now text one other (IsOversize none is) (IsRead octets a some read was) =
    absurd (none-some octets (sym none ∙ some))
one_judgement w from id now text one other (IsNone octets some unread is) (IsOversize none was) =
    absurd (none-some octets (sym none ∙ some))
one_judgement w from id now text one other (IsNone octets some unread is)
    (IsNone octets' some' unread' was) = is ∙ sym was
one_judgement w from id now text one other (IsNone octets some unread is)
    (IsRead octets' a some' read was) =
    absurd (unread a (subst (λ t. IsArticleText t a)
    (same_Some octets' octets (sym some' ∙ some)) read))
one_judgement w from id now text one other (IsRead octets a some read is) (IsOversize none was) =
    absurd (none-some octets (sym none ∙ some))
one_judgement w from id now text one other (IsRead octets a some read is)
    (IsNone octets' some' unread was) =
    absurd (unread a (subst (λ t. IsArticleText t a)
    (same_Some octets octets' (sym some ∙ some')) read))
one_judgement w from id now text one other (IsRead octets a some read is)
    (IsRead octets' b some' read' was) =
    is ∙ ap (judged w from id now) (one_article octets a b read.laid_out
    (subst (λ t. IsArticleText t b) (same_Some octets' octets (sym some' ∙ some)) read').laid_out)
    ∙ sym was

-- a block isn't without a judgement: without one no article would be its text, and then it has one
pub some_judgement : (w : Terms) (from : ℕ) (id : List ℕ) (now : ℕ) (text : Option (List ℕ))
    → ¬ ((one : Result Accepted Reason) → ¬ Judges w from id now text one)
some_judgement w from id now None none = none (Err Size) (IsOversize refl refl)
some_judgement w from id now (Some octets) none =
    let unread : (a : Article) → ¬ IsArticleText octets a =
    λ a read. none (judged w from id now a) (IsRead octets a refl read refl) in
    none (Err Grammar) (IsNone octets refl unread refl)
