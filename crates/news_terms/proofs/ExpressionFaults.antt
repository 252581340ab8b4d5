-- A text that is an expression has no fault.
use Rattle.std.proofs.Common.{◌≡◌, ℕ, ◌<◌, true, List, [], ◌∷◌, ◌++◌}
use Rattle.std.proofs.Common.{length, drop, Option, Some, None, refl, sym, ap, subst, ◌∙◌}
use Rattle.std.proofs.Common.{append_assoc, arith}
use Rattle.std.specs.Prelude.{◌==◌, IsTrue, flat_map}
use Rattle.std.specs.Prelude.{unwrap_or}
use Rattle.std.specs.List.{list_all}
use Rattle.std.specs.Str.{byte}
use Rattle.std.proofs.lemmas.Bool.{and_parts, or_parts, not-true}
use Rattle.std.proofs.lemmas.List.{append-nil}
use Rattle.news_terms.specs.Pattern.{Item, Star, AnyOctet, Literal, Escaped, OneOf, NoneOf}
use Rattle.news_terms.specs.Pattern.{Verdict, Match, Fail, Poison, Marked, is_item}
use Rattle.news_terms.specs.Pattern.{is_marked, begins_unmarked, item_text, marked_text}
use Rattle.news_terms.specs.Pattern.{expression_text, IsExpressionText}
use Rattle.news_terms.specs.Pattern.{ExpressionFault}
use Rattle.news_terms.specs.Pattern.{BeginsFaulty, HasLeftmostFault}
use Rattle.news_terms.proofs.ExpressionReadings.{first_item, first_item-text, read_mark, mark_read}
use Rattle.news_terms.proofs.ExpressionReadings.{Ends, one_marked, end_ends, comma_ends}
use Rattle.news_terms.proofs.ItemFaults.{fault_head}
use Rattle.news_terms.proofs.ItemFaults.{item_fault}

-- a text that ends a pattern, and at which no fault begins
pub record EndsFine (s : List ℕ) : Type 0 where
  pub ends : Ends s
  pub fine : (fault : ExpressionFault) → BeginsFaulty s fault → ⊥

-- the end, and a comma
fine_end : EndsFine []
fine_end = record {
  ends = end_ends;
  fine =
      λ fault w. fault_head [] fault (λ e. omega (arith, e)) (λ e. omega (arith, e))
      (omega arith) w;
}

pub fine_comma : (rest : List ℕ) → EndsFine (byte "," ∷ rest)
fine_comma rest = record {
  ends = comma_ends rest;
  fine = λ fault w. fault_head (byte "," ∷ rest) fault (λ e. omega (arith, e))
      (λ e. omega (arith, e)) (omega arith) w;
}

-- no fault begins behind the first parts of a pattern
pattern_fault : (p q : List Item) (rest t : List ℕ) (fault : ExpressionFault)
    → IsTrue (list_all is_item p) → IsTrue (list_all is_item q) → EndsFine t
    → flat_map item_text p ++ rest ≡ flat_map item_text q ++ t → BeginsFaulty rest fault → ⊥
pattern_fault [] [] rest t fault hp hq et e w =
    et.fine fault (subst (λ (x : List ℕ). BeginsFaulty x fault) e w)
pattern_fault [] (j ∷ q) rest t fault hp hq et e w =
    item_fault j (flat_map item_text q ++ t) fault (and_parts (is_item j) (list_all is_item q) hq).0
    (subst (λ (x : List ℕ). BeginsFaulty x fault)
    (e ∙ append_assoc (item_text j) (flat_map item_text q) t) w)
pattern_fault (i ∷ p) [] rest t fault hp hq et e w =
    let parts = and_parts (is_item i) (list_all is_item p) hp in
    let whole : t ≡ item_text i ++ (flat_map item_text p ++ rest) =
    sym e ∙ append_assoc (item_text i) (flat_map item_text p) rest in
    let found : ◌≡◌ {A = Option (Item × List ℕ)} None (Some (i, flat_map item_text p ++ rest)) =
    sym et.ends.no_item ∙ ap first_item whole
    ∙ first_item-text i (flat_map item_text p ++ rest) parts.0 in
    absurd cc
pattern_fault (i ∷ p) (j ∷ q) rest t fault hp hq et e w =
    let ip = and_parts (is_item i) (list_all is_item p) hp in
    let iq = and_parts (is_item j) (list_all is_item q) hq in
    let whole : item_text i ++ (flat_map item_text p ++ rest)
    ≡ item_text j ++ (flat_map item_text q ++ t) =
    sym (append_assoc (item_text i) (flat_map item_text p) rest) ∙ e
    ∙ append_assoc (item_text j) (flat_map item_text q) t in
    let both : ◌≡◌ {A = Option (Item × List ℕ)} (Some (i, flat_map item_text p ++ rest))
    (Some (j, flat_map item_text q ++ t)) =
    sym (first_item-text i (flat_map item_text p ++ rest) ip.0) ∙ ap first_item whole
    ∙ first_item-text j (flat_map item_text q ++ t) iq.0 in
    let found : ◌≡◌ {A = Item × List ℕ} (i, flat_map item_text p ++ rest)
    (j, flat_map item_text q ++ t) =
    ap (λ (o : Option (Item × List ℕ)). unwrap_or o (Star, [])) both in
    pattern_fault p q rest t fault ip.1 iq.1 et (ap (λ (x : Item × List ℕ). x.1) found) w

-- a pattern that begins unmarked with some part is read without a mark
unmarked_part : (i : Item) (p : List Item) (s : List ℕ) → IsTrue (begins_unmarked (i ∷ p))
    → read_mark (flat_map item_text (i ∷ p) ++ s) ≡ (Match, flat_map item_text (i ∷ p) ++ s)
unmarked_part Star p s h = refl
unmarked_part AnyOctet p s h = refl
unmarked_part (Literal c) p s h =
    let parts = or_parts (c == byte "!") (c == byte "@") (not-true _ h) in
    rw (parts.0, parts.1) refl
unmarked_part (Escaped c) p s h = refl
unmarked_part (OneOf set) p s h = refl
unmarked_part (NoneOf set) p s h = refl

-- no fault begins where a marked pattern does
marked_begins : (mark : Verdict) (q : List Item) (t : List ℕ) (fault : ExpressionFault)
    → IsTrue (list_all is_item q) → EndsFine t
    → BeginsFaulty (marked_text (record { mark = mark; pattern = q }) ++ t) fault → ⊥
marked_begins Match q t fault hq et w =
    pattern_fault [] q (flat_map item_text q ++ t) t fault refl hq et refl w
marked_begins Fail q t fault hq et w =
    fault_head (byte "!" ∷ (flat_map item_text q ++ t)) fault (λ e. omega (arith, e))
    (λ e. omega (arith, e)) (omega arith) w
marked_begins Poison q t fault hq et w =
    fault_head (byte "@" ∷ (flat_map item_text q ++ t)) fault (λ e. omega (arith, e))
    (λ e. omega (arith, e)) (omega arith) w

-- nor behind the front of one
pub marked_fault : (mark : Verdict) (p : List Item) (n : Marked) (rest t : List ℕ)
    (fault : ExpressionFault)
    → IsTrue (is_marked (record { mark = mark; pattern = p })) → IsTrue (is_marked n) → EndsFine t
    → marked_text (record { mark = mark; pattern = p }) ++ rest ≡ marked_text n ++ t
    → BeginsFaulty rest fault → ⊥
marked_fault Match [] n rest t fault hm hn et e w =
    marked_begins n.mark n.pattern t fault (and_parts (list_all is_item n.pattern) _ hn).0 et
    (subst (λ (x : List ℕ). BeginsFaulty x fault) e w)
marked_fault Match (i ∷ p) n rest t fault hm hn et e w =
    let good = and_parts (list_all is_item (i ∷ p)) (begins_unmarked (i ∷ p)) hm in
    let both = sym (unmarked_part i p rest good.1) ∙ ap read_mark e
    ∙ mark_read n.mark n.pattern t hn et.ends.no_mark in
    pattern_fault (i ∷ p) n.pattern rest t fault good.0
    (and_parts (list_all is_item n.pattern) _ hn).0 et (ap (λ x. x.1) both) w
marked_fault Fail p n rest t fault hm hn et e w =
    let both : ◌≡◌ {A = Verdict × List ℕ} (Fail, flat_map item_text p ++ rest)
    (n.mark, flat_map item_text n.pattern ++ t) =
    ap read_mark e ∙ mark_read n.mark n.pattern t hn et.ends.no_mark in
    pattern_fault p n.pattern rest t fault (and_parts (list_all is_item p) _ hm).0
    (and_parts (list_all is_item n.pattern) _ hn).0 et (ap (λ x. x.1) both) w
marked_fault Poison p n rest t fault hm hn et e w =
    let both : ◌≡◌ {A = Verdict × List ℕ} (Poison, flat_map item_text p ++ rest)
    (n.mark, flat_map item_text n.pattern ++ t) =
    ap read_mark e ∙ mark_read n.mark n.pattern t hn et.ends.no_mark in
    pattern_fault p n.pattern rest t fault (and_parts (list_all is_item p) _ hm).0
    (and_parts (list_all is_item n.pattern) _ hn).0 et (ap (λ x. x.1) both) w

-- no fault begins behind the front of an expression
list_fault : (a b : List Marked) (rest : List ℕ) (fault : ExpressionFault) → 0 < length a
    → 0 < length b
    → IsTrue (list_all is_marked a) → IsTrue (list_all is_marked b)
    → expression_text a ++ rest ≡ expression_text b → BeginsFaulty rest fault → ⊥
list_fault [] b rest fault some some' ha hb e w = omega (arith, some)
list_fault (m ∷ a) [] rest fault some some' ha hb e w = omega (arith, some')
list_fault (m ∷ []) (n ∷ []) rest fault some some' ha hb e w =
    marked_fault m.mark m.pattern n rest [] fault (and_parts (is_marked m) true ha).0
    (and_parts (is_marked n) true hb).0 fine_end
    (e ∙ sym (append-nil (marked_text n))) w
list_fault (m ∷ []) (n ∷ x ∷ b) rest fault some some' ha hb e w =
    marked_fault m.mark m.pattern n rest (byte "," ∷ expression_text (x ∷ b)) fault
    (and_parts (is_marked m) true ha).0
    (and_parts (is_marked n) (list_all is_marked (x ∷ b)) hb).0
    (fine_comma (expression_text (x ∷ b))) e w
list_fault (m ∷ y ∷ a) (n ∷ []) rest fault some some' ha hb e w =
    let pm = and_parts (is_marked m) (list_all is_marked (y ∷ a)) ha in
    let pn = and_parts (is_marked n) true hb in
    let more = byte "," ∷ (expression_text (y ∷ a) ++ rest) in
    let ended : marked_text m ++ more ≡ marked_text n ++ [] =
    sym (append_assoc (marked_text m) (byte "," ∷ expression_text (y ∷ a)) rest) ∙ e
    ∙ sym (append-nil (marked_text n)) in
    let same = one_marked m n more [] pm.0 pn.0 (comma_ends _) end_ends ended in
    absurd (cc (same.1))
list_fault (m ∷ y ∷ a) (n ∷ x ∷ b) rest fault some some' ha hb e w =
    let pm = and_parts (is_marked m) (list_all is_marked (y ∷ a)) ha in
    let pn = and_parts (is_marked n) (list_all is_marked (x ∷ b)) hb in
    let more = byte "," ∷ (expression_text (y ∷ a) ++ rest) in
    let ended : marked_text m ++ more ≡ marked_text n ++ byte "," ∷ expression_text (x ∷ b) =
    sym (append_assoc (marked_text m) (byte "," ∷ expression_text (y ∷ a)) rest) ∙ e in
    let same = one_marked m n more (byte "," ∷ expression_text (x ∷ b)) pm.0 pn.0 (comma_ends _)
    (comma_ends _) ended in
    list_fault (y ∷ a) (x ∷ b) rest fault (omega arith) (omega arith) pm.1 pn.1
    (ap (drop 1) same.1) w

-- a text that is an expression has no fault
pub expression_without_fault : (text : List ℕ) (expression : List Marked) (fault : ExpressionFault)
    → IsExpressionText text expression → HasLeftmostFault text fault → ⊥
expression_without_fault text expression fault h w =
    list_fault w.expression expression w.rest fault w.read.some h.some w.read.each h.each
    (sym (ap (λ x. x ++ w.rest) w.read.spelled) ∙ sym w.split ∙ h.spelled) w.faulty
