-- Parts of patterns and patterns that were read one after another, and the fault behind them.
use Rattle.std.proofs.Common.{◌≡◌, ℕ, not, List, [], ◌∷◌, ◌++◌, codes, refl, sym, ap, ◌∙◌}
use Rattle.std.proofs.Common.{append_assoc, length-append, arith}
use Rattle.std.specs.Prelude.{◌||◌, IsTrue, flat_map}
use Rattle.std.specs.List.{list_all}
use Rattle.std.specs.Str.{byte}
use Rattle.std.proofs.lemmas.Bool.{and_from}
use Rattle.std.proofs.lemmas.List.{append-nil}
use Rattle.std.proofs.lemmas.List.Folds.{list_all-append}
use Rattle.news_terms.specs.Pattern.{Item, Star, AnyOctet, Literal, Escaped, OneOf, NoneOf, Verdict}
use Rattle.news_terms.specs.Pattern.{Match, Fail, Poison, Marked, ExpressionFault, HasLeftmostFault}
use Rattle.news_terms.specs.Pattern.{IsExpressionText, expression_text, marked_text, mark_text}
use Rattle.news_terms.specs.Pattern.{item_text, is_match, begins_unmarked, is_marked}
use Rattle.uwild.specs.Reads.{AreItemsTo, HasFaultBehindItems, begins_marked, IsMarkCut, IsMarkedTo}
use Rattle.uwild.specs.Reads.{HasFaultInPattern, with_commas, ArePatternsTo}

-- parts whose text begins with no mark
unmarked : (items : List Item) (rest : List ℕ)
    → IsTrue (not (begins_marked (flat_map item_text items ++ rest)))
    → IsTrue (begins_unmarked items)
unmarked [] rest h = refl
unmarked (Star ∷ items) rest h = refl
unmarked (AnyOctet ∷ items) rest h = refl
unmarked (Literal c ∷ items) rest h = h
unmarked (Escaped c ∷ items) rest h = refl
unmarked (OneOf set ∷ items) rest h = refl
unmarked (NoneOf set ∷ items) rest h = refl

-- a mark and the parts behind it
pub marked_items : (text : List ℕ) (mark : Verdict) (rest : List ℕ) (items : List Item)
    (more : List ℕ)
    → IsMarkCut text mark rest → AreItemsTo rest items more
    → IsMarkedTo text (record { mark = mark; pattern = items }) more
marked_items text mark rest items more cut read = record {
  spelled = cut.spelled ∙ ap (λ x. mark_text mark ++ x) read.spelled
      ∙ sym (append_assoc (mark_text mark) (flat_map item_text items) more);
  is_marked = and_from _ _ read.each (whole mark cut.whole);
}
  where
    whole : (mark : Verdict) → IsTrue (not (is_match mark) || not (begins_marked rest))
        → IsTrue (not (is_match mark) || begins_unmarked items)
    whole Match h = unmarked items more (ap (λ x. not (begins_marked x)) (sym read.spelled) ∙ h)
    whole Fail h = refl
    whole Poison h = refl

-- a fault behind the parts stands behind the front of the pattern
pub pattern_fault : (text : List ℕ) (mark : Verdict) (rest : List ℕ) → IsMarkCut text mark rest
    → (fault : ExpressionFault) → HasFaultBehindItems rest fault → HasFaultInPattern text fault
pattern_fault text mark rest cut fault h = record {
  front = record { mark = mark; pattern = h.items };
  rest = h.rest;
  read = marked_items text mark rest h.items h.rest cut h.read;
  faulty = h.faulty;
}

-- patterns with commas and one more are an expression
joined : (done : List Marked) (m : Marked)
    → expression_text (done ++ m ∷ []) ≡ with_commas done ++ marked_text m
joined [] m = refl
joined (d ∷ []) m =
    sym (append_assoc (marked_text d) (codes ",") (marked_text m))
    ∙ ap (λ x. x ++ marked_text m) (sym (append-nil (marked_text d ++ codes ",")))
joined (d ∷ e ∷ done) m =
    ap (λ x. marked_text d ++ byte "," ∷ x) (joined (e ∷ done) m)
    ∙ sym (append_assoc (marked_text d) (codes ",") (with_commas (e ∷ done) ++ marked_text m))
    ∙ sym (append_assoc (marked_text d ++ codes ",") (with_commas (e ∷ done)) (marked_text m))

-- what stands in front of a place behind the front of a pattern
expression_front : (text : List ℕ) (done : List Marked) (rest : List ℕ) (m : Marked) (more : List ℕ)
    → ArePatternsTo text done rest → IsMarkedTo rest m more
    → text ≡ expression_text (done ++ m ∷ []) ++ more
expression_front text done rest m more patterns marked =
    patterns.spelled ∙ ap (λ x. with_commas done ++ x) marked.spelled
    ∙ sym (append_assoc (with_commas done) (marked_text m) more)
    ∙ ap (λ x. x ++ more) (sym (joined done m))

-- patterns with commas, and one more, are a list of patterns that can be written
pub all_marked : (text : List ℕ) (done : List Marked) (rest : List ℕ) (m : Marked) (more : List ℕ)
    → ArePatternsTo text done rest → IsMarkedTo rest m more
    → IsTrue (list_all is_marked (done ++ m ∷ []))
all_marked text done rest m more patterns marked =
    list_all-append is_marked done (m ∷ [])
    ∙ and_from _ _ patterns.each (and_from _ _ marked.is_marked refl)

-- a fault behind the front of a pattern is the leftmost of the text
pub leftmost_fault : (text : List ℕ) (done : List Marked) (rest : List ℕ)
    → ArePatternsTo text done rest → (fault : ExpressionFault) → HasFaultInPattern rest fault
    → HasLeftmostFault text fault
leftmost_fault text done rest patterns fault h = record {
  before = expression_text (done ++ h.front ∷ []);
  expression = done ++ h.front ∷ [];
  rest = h.rest;
  split = expression_front text done rest h.front h.rest patterns h.read;
  read = record {
    some = simp length-append (omega arith);
    each = all_marked text done rest h.front h.rest patterns h.read;
    spelled = refl;
  };
  faulty = h.faulty;
}

-- where no comma follows the last pattern, the text is the expression
pub whole_expression : (text : List ℕ) (done : List Marked) (rest : List ℕ) (m : Marked)
    → ArePatternsTo text done rest → IsMarkedTo rest m []
    → IsExpressionText text (done ++ m ∷ [])
whole_expression text done rest m patterns marked = record {
  some = simp length-append (omega arith);
  each = all_marked text done rest m [] patterns marked;
  spelled = expression_front text done rest m [] patterns marked ∙ append-nil _;
}
