-- A header gone over field by field.
use Rattle.std.proofs.Common.{◌≡◌, ℕ, ◌+◌, ◌-◌, false, List, [], ◌∷◌, ◌++◌, length, take, drop}
use Rattle.std.proofs.Common.{sym, ap, subst, ◌∙◌, arith, append_assoc, append-nil, length-drop}
use Rattle.std.proofs.Common.{IsTrue}
use Rattle.std.specs.Prelude.{flat_map}
use Rattle.std.specs.List.{AllByRecursion}
use Rattle.std.proofs.lemmas.Bool.{both_ways}
use Rattle.std.proofs.lemmas.Grind.{flat_map-append}
use Rattle.std.proofs.lemmas.List.{drop-drop, take_rest}
use Rattle.news_terms.specs.Article.{Field, Article, IsField, IsLaidOut, field_text, has_empty_line}
use Rattle.news_terms.specs.Article.{are_header_lines, header_lines, is_paired}
use Rattle.news_terms.proofs.ArticleFaults.{laid_out_line, laid_out_header}
use Rattle.news_terms.proofs.EmptyLines.{has_empty_line-iff}
use Rattle.article_parse.specs.Header.{AreFieldsTo, IsFieldAt}

-- what holds of each of some fields and of one more holds of each
all_more : (fields : List Field) (f : Field) → AllByRecursion IsField fields → IsField f
    → AllByRecursion IsField (fields ++ f ∷ [])
all_more [] f h g = (g, tt)
all_more (first ∷ fields) f h g = (h.0, all_more fields f h.1 g)

-- a field behind the fields passed is passed too
pub field_passed : (s rest : List ℕ) (fields : List Field) (f : Field) (at octets : ℕ)
    → rest ≡ drop at s → AreFieldsTo s fields at → IsFieldAt rest f octets
    → AreFieldsTo s (fields ++ f ∷ []) (at + octets)
field_passed s rest fields f at octets e h g =
    let within = h.within in
    let fits = g.fits in
    let front = flat_map field_text fields in
    let left : drop octets rest ≡ drop (at + octets) s =
    ap (drop octets) e ∙ drop-drop octets at s in
    let behind : drop at s ≡ field_text f ++ drop (at + octets) s =
    sym e ∙ g.spelled ∙ ap (λ x. field_text f ++ x) left in
    let fronts : flat_map field_text (fields ++ f ∷ []) ≡ front ++ field_text f =
    flat_map-append field_text fields (f ∷ []) ∙ ap (λ x. front ++ x) (append-nil (field_text f)) in
    record {
      within = omega (arith, fits, ap length e, length-drop at s);
      spelled = h.spelled ∙ ap (λ x. front ++ x) behind
          ∙ sym (append_assoc front (field_text f) (drop (at + octets) s))
          ∙ ap (λ x. x ++ drop (at + octets) s) (sym fronts);
      each_field = all_more fields f h.each_field g.is_field;
      paired = ap is_paired (sym left) ∙ g.paired;
      empty = h.empty ∙ ap has_empty_line (sym e) ∙ g.empty ∙ ap has_empty_line left;
      good = h.good ∙ ap (λ x. are_header_lines (header_lines x)) (sym e) ∙ g.good
          ∙ ap (λ x. are_header_lines (header_lines x)) left;
    }

-- where no empty line follows the fields passed, the text is not laid out as an article
pub no_line : (s rest : List ℕ) (fields : List Field) (at : ℕ) → rest ≡ drop at s
    → AreFieldsTo s fields at → has_empty_line rest ≡ false → (a : Article) → IsLaidOut s a → ⊥
no_line s rest fields at e h none a laid =
    both_ways _ (h.empty ∙ ap has_empty_line (sym e) ∙ none)
    ((has_empty_line-iff s).1 (laid_out_line s a laid))

-- nor where a line behind them is none of a header
pub no_header : (s rest : List ℕ) (fields : List Field) (at : ℕ) → rest ≡ drop at s
    → AreFieldsTo s fields at → are_header_lines (header_lines rest) ≡ false
    → (a : Article) → IsLaidOut s a → ⊥
no_header s rest fields at e h none a laid =
    both_ways _ (h.good ∙ ap (λ x. are_header_lines (header_lines x)) (sym e) ∙ none)
    (laid_out_header s a laid)

-- what is left of the text is sliced off with its line ends in pairs
pub rest_paired : (s : List ℕ) (fields : List Field) (at : ℕ) → AreFieldsTo s fields at
    → IsTrue (is_paired (take (length s - at) (drop at s)))
rest_paired s fields at h =
    subst (λ (x : List ℕ). IsTrue (is_paired x)) (sym (take_rest s at)) h.paired
