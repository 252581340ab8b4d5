-- An article has no fault, and a text has one first fault.
use Rattle.std.proofs.Common.{◌≡◌, ℕ, ◌≤◌, Bool, true, false, ◌||◌, List, [], ◌∷◌, ◌++◌, length}
use Rattle.std.proofs.Common.{refl, sym, subst, ◌∙◌, arith}
use Rattle.std.specs.Prelude.{IsTrue, IsFalse}
use Rattle.std.specs.List.{AllByRecursion, list_any}
use Rattle.std.proofs.lemmas.Bool.{both_ways, or_parts}
use Rattle.std.proofs.lemmas.List.Folds.{list_any-append}
use Rattle.news_terms.specs.Article.{Article, Field, FieldName, Date, From, MessageId, Newsgroups}
use Rattle.news_terms.specs.Article.{Path, Subject, InjectionDate, Fault, Nul, BareCrLf}
use Rattle.news_terms.specs.Article.{NoBlankLine, BadHeader, Missing, Twice, EmptyField, BadId}
use Rattle.news_terms.specs.Article.{BadGroups, IsLaidOut, IsArticleText, HasFault, HasEmptyLine}
use Rattle.news_terms.specs.Article.{IsFirstFault, StandsRightly, FieldsHave, faults_in_order}
use Rattle.news_terms.specs.Article.{is_paired, are_header_lines, header_lines}
use Rattle.news_terms.proofs.ArticleReadings.{one_article}
use Rattle.news_terms.proofs.HeaderLines.{has_line, header_is_good}

-- a text that is laid out as an article has an empty line
pub laid_out_line : (text : List ℕ) (a : Article) → IsLaidOut text a → HasEmptyLine text
laid_out_line text a h = subst HasEmptyLine (sym h.spelled) (has_line a.fields a.body)

-- and its header lines begin fields and continue them
pub laid_out_header : (text : List ℕ) (a : Article) → IsLaidOut text a
    → IsTrue (are_header_lines (header_lines text))
laid_out_header text a h =
    subst (λ (x : List ℕ). IsTrue (are_header_lines (header_lines x))) (sym h.spelled)
    (header_is_good 0 a.fields a.body (λ e. omega (arith, e)) h.each_field
    (subst (λ (x : List ℕ). IsTrue (is_paired x)) h.spelled h.paired))

-- what is wrong with the fields of a text is wrong with those of the article that it is laid out as
pub of_these_fields : (text : List ℕ) (a : Article) (Wrong : List Field → Type 0)
    → IsLaidOut text a → FieldsHave text Wrong → Wrong a.fields
of_these_fields text a Wrong h w =
    subst (λ (x : Article). Wrong x.fields) (one_article text w.0 a w.1 h) w.2

-- a fault that is never tried: Injection-Date may be missing
abbrev is_untried : Fault → Bool
is_untried Nul = false
is_untried BareCrLf = false
is_untried NoBlankLine = false
is_untried BadHeader = false
is_untried (Missing Date) = false
is_untried (Missing From) = false
is_untried (Missing MessageId) = false
is_untried (Missing Newsgroups) = false
is_untried (Missing Path) = false
is_untried (Missing Subject) = false
is_untried (Missing InjectionDate) = true
is_untried (Twice name) = false
is_untried (EmptyField name) = false
is_untried BadId = false
is_untried BadGroups = false

-- a field that may stand no times is Injection-Date
none_stands : (name : FieldName) → StandsRightly name 0 → IsTrue (is_untried (Missing name))
none_stands Date h = absurd (omega (arith, h))
none_stands From h = absurd (omega (arith, h))
none_stands MessageId h = absurd (omega (arith, h))
none_stands Newsgroups h = absurd (omega (arith, h))
none_stands Path h = absurd (omega (arith, h))
none_stands Subject h = absurd (omega (arith, h))
none_stands InjectionDate h = refl

-- no field may stand twice or more
two_stand : (name : FieldName) (n : ℕ) → StandsRightly name n → 2 ≤ n → ⊥
two_stand Date n h two = omega (arith, h, two)
two_stand From n h two = omega (arith, h, two)
two_stand MessageId n h two = omega (arith, h, two)
two_stand Newsgroups n h two = omega (arith, h, two)
two_stand Path n h two = omega (arith, h, two)
two_stand Subject n h two = omega (arith, h, two)
two_stand InjectionDate n h two = omega (arith, h, two)

-- an article has no fault that is tried
no_fault : (text : List ℕ) (a : Article) (fault : Fault) → IsArticleText text a
    → IsFalse (is_untried fault) → HasFault text fault → ⊥
no_fault text a Nul h tried w = both_ways _ h.laid_out.without_nul w
no_fault text a BareCrLf h tried w = both_ways _ w h.laid_out.paired
no_fault text a NoBlankLine h tried w = w (laid_out_line text a h.laid_out)
no_fault text a BadHeader h tried w = both_ways _ w (laid_out_header text a h.laid_out)
no_fault text a (Missing name) h tried w =
    let none = of_these_fields text a _ h.laid_out w in
    let stands = subst (λ (x : List (List ℕ)). StandsRightly name (length x)) none
    (h.fields.often name) in
    both_ways _ tried (none_stands name stands)
no_fault text a (Twice name) h tried w =
    two_stand name _ (h.fields.often name) (of_these_fields text a _ h.laid_out w)
no_fault text a (EmptyField name) h tried w =
    both_ways _ (h.fields.filled name) (of_these_fields text a _ h.laid_out w)
no_fault text a BadId h tried w = of_these_fields text a _ h.laid_out w h.fields.id
no_fault text a BadGroups h tried w =
    both_ways _ (of_these_fields text a _ h.laid_out w) h.fields.groups

-- each fault of the order is tried
in_order : (earlier later : List Fault) (fault : Fault) → faults_in_order ≡ earlier ++ fault ∷ later
    → IsFalse (is_untried fault)
in_order earlier later fault e =
    let none : list_any is_untried (earlier ++ fault ∷ later) ≡ false =
    subst (λ (x : List Fault). list_any is_untried x ≡ false) e refl in
    let parts : (list_any is_untried earlier || (is_untried fault || list_any is_untried later))
    ≡ false =
    sym (list_any-append is_untried earlier (fault ∷ later)) ∙ none in
    (or_parts (is_untried fault) (list_any is_untried later)
    (or_parts (list_any is_untried earlier) _ parts).1).0

-- an article has no first fault
pub article_without_fault : (text : List ℕ) (a : Article) (fault : Fault) → IsArticleText text a
    → ¬ IsFirstFault text fault
article_without_fault text a fault h w =
    no_fault text a fault h (in_order w.earlier w.later fault w.tried) w.is_fault

-- two first faults of one order are the same
same_first : (text : List ℕ) (f g : Fault) (before after before' after' : List Fault)
    → before ++ f ∷ after ≡ before' ++ g ∷ after'
    → AllByRecursion (λ other. ¬ HasFault text other) before
    → AllByRecursion (λ other. ¬ HasFault text other) before'
    → HasFault text f → HasFault text g → f ≡ g
same_first text f g [] after [] after' e none none' hf hg = cc
same_first text f g [] after (x ∷ before') after' e none none' hf hg =
    let same : f ≡ x = cc in absurd (none'.0 (subst (HasFault text) same hf))
same_first text f g (x ∷ before) after [] after' e none none' hf hg =
    let same : g ≡ x = cc in absurd (none.0 (subst (HasFault text) same hg))
same_first text f g (x ∷ before) after (y ∷ before') after' e none none' hf hg =
    let tails : before ++ f ∷ after ≡ before' ++ g ∷ after' = cc in
    same_first text f g before after before' after' tails none.1 none'.1 hf hg

-- a text has one first fault at most
pub one_first_fault : (text : List ℕ) (f g : Fault) → IsFirstFault text f → IsFirstFault text g
    → f ≡ g
one_first_fault text f g hf hg =
    same_first text f g hf.earlier hf.later hg.earlier hg.later (sym hf.tried ∙ hg.tried)
    hf.none_earlier hg.none_earlier hf.is_fault hg.is_fault
