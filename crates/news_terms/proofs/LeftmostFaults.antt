-- A text has one leftmost fault at most.
use Rattle.std.proofs.Common.{◌≡◌, ◌≢◌, ℕ, ◌+◌, ◌<◌, ◌≤◌, true, false, not, List, [], ◌∷◌, ◌++◌}
use Rattle.std.proofs.Common.{length}
use Rattle.std.proofs.Common.{take, drop, Option, Some, None, codes, refl, sym, ap, subst, ◌∙◌, inl}
use Rattle.std.proofs.Common.{inr}
use Rattle.std.proofs.Common.{append_assoc, arith}
use Rattle.std.specs.Prelude.{◌==◌, nat_eq, if◌then◌else◌, IsTrue, IsFalse, flat_map, unwrap_or}
use Rattle.std.specs.List.{list_all, before_first, position_or_len, starts_with}
use Rattle.std.specs.Char.{is_ascii}
use Rattle.std.specs.Str.{byte}
use Rattle.std.proofs.lemmas.Bool.{and_parts, both_ways, not-true, ne_eqb, cases_Bool, eqb-true}
use Rattle.std.proofs.lemmas.Bool.{le-ltb}
use Rattle.std.proofs.lemmas.List.Folds.{list_all-append}
use Rattle.std.proofs.Math.Seq.{take-append_seam}
use Rattle.news_terms.specs.Article.{is_empty}
use Rattle.news_terms.specs.Pattern.{Item, Star, Verdict, Marked, is_item, is_marked, item_text}
use Rattle.news_terms.specs.Pattern.{marked_text, expression_text, has_no_bracket, set_fault}
use Rattle.news_terms.specs.Pattern.{ExpressionFault, OpenSet, EmptySet, BadRange, DanglingEscape}
use Rattle.news_terms.specs.Pattern.{NonAscii, BeginsFaultySet, in_set, in_reverse, BeginsFaulty}
use Rattle.news_terms.specs.Pattern.{HasLeftmostFault, Match}
use Rattle.news_terms.proofs.ExpressionReadings.{is_bracket, first_item, first_item-text, read_mark}
use Rattle.news_terms.proofs.ExpressionReadings.{mark_read, one_marked, comma_ends}
use Rattle.news_terms.proofs.ItemFaults.{item_fault, none_is_none}
use Rattle.news_terms.proofs.ExpressionFaults.{marked_fault, fine_comma}

-- the fault of the octets between brackets
abbrev between_fault : List ℕ → Option ExpressionFault
between_fault [] = Some EmptySet
between_fault (c ∷ set) =
    if c == byte "^" then (if is_empty set then Some EmptySet else set_fault set)
    else set_fault (c ∷ set)

-- the fault of a set behind its `[`
abbrev bracket_fault : List ℕ → Option ExpressionFault
bracket_fault text =
    if has_no_bracket text then Some OpenSet else between_fault (before_first is_bracket text)

-- the fault behind a `\`
abbrev escape_fault : List ℕ → Option ExpressionFault
escape_fault [] = Some DanglingEscape
escape_fault (c ∷ rest) = if is_ascii c then None else Some NonAscii

-- the fault at the front of a text, read from the left
abbrev fault_at : List ℕ → Option ExpressionFault
fault_at [] = None
fault_at (c ∷ rest) =
    if c == byte "[" then bracket_fault rest
    else (if c == byte "\\" then escape_fault rest
    else (if is_ascii c then None else Some NonAscii))

-- octets without a `]`, and then one
bracket_behind : (set rest : List ℕ) → IsTrue (has_no_bracket set)
    → position_or_len is_bracket (set ++ byte "]" ∷ rest) ≡ length set
bracket_behind [] rest h = refl
bracket_behind (c ∷ set) rest h =
    let parts = and_parts (not (c == byte "]")) (has_no_bracket set) h in
    let no : is_bracket c ≡ false = not-true _ parts.0 in
    rw no (ap (λ n. 1 + n) (bracket_behind set rest parts.1) ∙ omega arith)

-- so the fault behind the `[` is the one between the brackets
bracket_closed : (set rest : List ℕ) → IsTrue (has_no_bracket set)
    → bracket_fault (set ++ byte "]" ∷ rest) ≡ between_fault set
bracket_closed set rest h =
    let closed : has_no_bracket (set ++ byte "]" ∷ rest) ≡ false =
    list_all-append (λ c. not (c == byte "]")) set (byte "]" ∷ rest) ∙ rw h refl in
    rw closed (ap (λ n. between_fault (take n (set ++ byte "]" ∷ rest))) (bracket_behind set rest h)
    ∙ ap between_fault (take-append_seam set (byte "]" ∷ rest)))

-- a fault of a set is the one between the brackets
set_between : (set : List ℕ) (fault : ExpressionFault)
    → IsFalse (starts_with nat_eq set (codes "^"))
    → set_fault set ≡ Some fault → between_fault set ≡ Some fault
set_between [] fault k f = absurd (none_is_none fault f)
set_between (c ∷ set) fault k f = elim (cases_Bool (c == byte "^")) [
  | inl t ↦ absurd (both_ways _ k
      (subst (λ x. starts_with nat_eq (x ∷ set) (codes "^") ≡ true)
      (sym (eqb-true c (byte "^") t)) refl))
  | inr n ↦ rw n f
]

-- and so is one of the reverse of a set
reverse_between : (set : List ℕ) (fault : ExpressionFault) → set_fault set ≡ Some fault
    → between_fault (byte "^" ∷ set) ≡ Some fault
reverse_between [] fault f = absurd (none_is_none fault f)
reverse_between (c ∷ set) fault f = f

-- what begins with a faulty set has that fault at its front
faulty_set_at : (text : List ℕ) (fault : ExpressionFault) → BeginsFaultySet text fault
    → fault_at text ≡ Some fault
faulty_set_at text fault (in_set set more e n k f) =
    ap fault_at e ∙ ap bracket_fault (append_assoc set (codes "]") more)
    ∙ bracket_closed set more n ∙ set_between set fault k f
faulty_set_at text fault (in_reverse set more e n f) =
    ap fault_at e ∙ ap (λ x. bracket_fault (byte "^" ∷ x)) (append_assoc set (codes "]") more)
    ∙ bracket_closed (byte "^" ∷ set) more n ∙ reverse_between set fault f

-- an octet past ASCII
past_ascii : (c : ℕ) → 128 ≤ c → is_ascii c ≡ false
past_ascii c h = le-ltb c 128 h

-- a fault that begins at a text is the one at its front
faulty_at : (text : List ℕ) (fault : ExpressionFault) → BeginsFaulty text fault
    → fault_at text ≡ Some fault
faulty_at text OpenSet h = ap fault_at h.1 ∙ rw h.2 refl
faulty_at text EmptySet h = elim h.1 [
  | inl e ↦ ap fault_at e
  | inr e ↦ ap fault_at e
]
faulty_at text BadRange h = faulty_set_at text BadRange h
faulty_at text DanglingEscape h = ap fault_at h
faulty_at text NonAscii h = elim h [
  | inl p ↦ elim p.3 [
    | inl e ↦ ap fault_at e ∙ bare p.0 p.1 p.2
    | inr e ↦ ap fault_at e ∙ rw (past_ascii p.0 p.2) refl
  ]
  | inr s ↦ faulty_set_at text NonAscii s
]
  where
    bare : (c : ℕ) (more : List ℕ) → 128 ≤ c → fault_at (c ∷ more) ≡ Some NonAscii
    bare c more h =
        let no_set : c ≢ byte "[" = λ e. omega (arith, e, h) in
        let no_escape : c ≢ byte "\\" = λ e. omega (arith, e, h) in
        rw (ne_eqb c (byte "[") no_set, ne_eqb c (byte "\\") no_escape, past_ascii c h) refl

-- one fault begins at a text
one_begins : (text : List ℕ) (a b : ExpressionFault) → BeginsFaulty text a → BeginsFaulty text b
    → a ≡ b
one_begins text a b ha hb =
    let both : ◌≡◌ {A = Option ExpressionFault} (Some a) (Some b) =
    sym (faulty_at text a ha) ∙ faulty_at text b hb in
    cc

-- where a fault begins, no mark does
faulty_unmarked : (text : List ℕ) (fault : ExpressionFault) → BeginsFaulty text fault
    → read_mark text ≡ (Match, text)
faulty_unmarked text fault h = unmarked text fault (faulty_at text fault h)
  where
    unmarked : (text : List ℕ) (fault : ExpressionFault) → fault_at text ≡ Some fault
        → read_mark text ≡ (Match, text)
    unmarked [] fault h = refl
    unmarked (c ∷ text) fault h =
        let no_fail : c ≢ byte "!" =
        λ e. none_is_none fault (subst (λ x. fault_at (x ∷ text) ≡ Some fault) e h) in
        let no_poison : c ≢ byte "@" =
        λ e. none_is_none fault (subst (λ x. fault_at (x ∷ text) ≡ Some fault) e h) in
        rw (ne_eqb c (byte "!") no_fail, ne_eqb c (byte "@") no_poison) refl

-- two patterns with faults behind them: the faults stand at one place
pattern_place : (p q : List Item) (s t : List ℕ) (a b : ExpressionFault)
    → IsTrue (list_all is_item p) → IsTrue (list_all is_item q)
    → BeginsFaulty s a → BeginsFaulty t b
    → flat_map item_text p ++ s ≡ flat_map item_text q ++ t → s ≡ t
pattern_place [] [] s t a b hp hq ha hb e = e
pattern_place [] (j ∷ q) s t a b hp hq ha hb e =
    absurd (item_fault j (flat_map item_text q ++ t) a
    (and_parts (is_item j) (list_all is_item q) hq).0
    (subst (λ (x : List ℕ). BeginsFaulty x a)
    (e ∙ append_assoc (item_text j) (flat_map item_text q) t) ha))
pattern_place (i ∷ p) [] s t a b hp hq ha hb e =
    absurd (item_fault i (flat_map item_text p ++ s) b
    (and_parts (is_item i) (list_all is_item p) hp).0
    (subst (λ (x : List ℕ). BeginsFaulty x b)
    (sym e ∙ append_assoc (item_text i) (flat_map item_text p) s) hb))
pattern_place (i ∷ p) (j ∷ q) s t a b hp hq ha hb e =
    let ip = and_parts (is_item i) (list_all is_item p) hp in
    let iq = and_parts (is_item j) (list_all is_item q) hq in
    let whole : item_text i ++ (flat_map item_text p ++ s)
    ≡ item_text j ++ (flat_map item_text q ++ t) =
    sym (append_assoc (item_text i) (flat_map item_text p) s) ∙ e
    ∙ append_assoc (item_text j) (flat_map item_text q) t in
    let both : ◌≡◌ {A = Option (Item × List ℕ)} (Some (i, flat_map item_text p ++ s))
    (Some (j, flat_map item_text q ++ t)) =
    sym (first_item-text i (flat_map item_text p ++ s) ip.0) ∙ ap first_item whole
    ∙ first_item-text j (flat_map item_text q ++ t) iq.0 in
    let found : ◌≡◌ {A = Item × List ℕ} (i, flat_map item_text p ++ s)
    (j, flat_map item_text q ++ t) =
    ap (λ (o : Option (Item × List ℕ)). unwrap_or o (Star, [])) both in
    pattern_place p q s t a b ip.1 iq.1 ha hb (ap (λ (x : Item × List ℕ). x.1) found)

-- and behind their marks
marked_place : (m n : Marked) (s t : List ℕ) (a b : ExpressionFault)
    → IsTrue (is_marked m) → IsTrue (is_marked n) → BeginsFaulty s a → BeginsFaulty t b
    → marked_text m ++ s ≡ marked_text n ++ t → s ≡ t
marked_place m n s t a b hm hn ha hb e =
    let both : ◌≡◌ {A = Verdict × List ℕ} (m.mark, flat_map item_text m.pattern ++ s)
    (n.mark, flat_map item_text n.pattern ++ t) =
    sym (mark_read m.mark m.pattern s hm (faulty_unmarked s a ha)) ∙ ap read_mark e
    ∙ mark_read n.mark n.pattern t hn (faulty_unmarked t b hb) in
    pattern_place m.pattern n.pattern s t a b (and_parts (list_all is_item m.pattern) _ hm).0
    (and_parts (list_all is_item n.pattern) _ hn).0 ha hb (ap (λ (x : Verdict × List ℕ). x.1) both)

-- and behind the fronts of two expressions
list_place : (x y : List Marked) (s t : List ℕ) (a b : ExpressionFault) → 0 < length x
    → 0 < length y → IsTrue (list_all is_marked x) → IsTrue (list_all is_marked y)
    → BeginsFaulty s a → BeginsFaulty t b
    → expression_text x ++ s ≡ expression_text y ++ t → s ≡ t
list_place [] y s t a b some some' hx hy ha hb e = absurd (omega (arith, some))
list_place (m ∷ x) [] s t a b some some' hx hy ha hb e = absurd (omega (arith, some'))
list_place (m ∷ []) (n ∷ []) s t a b some some' hx hy ha hb e =
    marked_place m n s t a b (and_parts (is_marked m) true hx).0 (and_parts (is_marked n) true hy).0
    ha hb e
list_place (m ∷ []) (n ∷ k ∷ y) s t a b some some' hx hy ha hb e =
    absurd (marked_fault m.mark m.pattern n s (byte "," ∷ (expression_text (k ∷ y) ++ t)) a
    (and_parts (is_marked m) true hx).0 (and_parts (is_marked n) (list_all is_marked (k ∷ y)) hy).0
    (fine_comma (expression_text (k ∷ y) ++ t))
    (e ∙ append_assoc (marked_text n) (byte "," ∷ expression_text (k ∷ y)) t) ha)
list_place (m ∷ k ∷ x) (n ∷ []) s t a b some some' hx hy ha hb e =
    absurd (marked_fault n.mark n.pattern m t (byte "," ∷ (expression_text (k ∷ x) ++ s)) b
    (and_parts (is_marked n) true hy).0 (and_parts (is_marked m) (list_all is_marked (k ∷ x)) hx).0
    (fine_comma (expression_text (k ∷ x) ++ s))
    (sym e ∙ append_assoc (marked_text m) (byte "," ∷ expression_text (k ∷ x)) s) hb)
list_place (m ∷ k ∷ x) (n ∷ l ∷ y) s t a b some some' hx hy ha hb e =
    let pm = and_parts (is_marked m) (list_all is_marked (k ∷ x)) hx in
    let pn = and_parts (is_marked n) (list_all is_marked (l ∷ y)) hy in
    let behind_m = byte "," ∷ (expression_text (k ∷ x) ++ s) in
    let behind_n = byte "," ∷ (expression_text (l ∷ y) ++ t) in
    let whole : marked_text m ++ behind_m ≡ marked_text n ++ behind_n =
    sym (append_assoc (marked_text m) (byte "," ∷ expression_text (k ∷ x)) s) ∙ e
    ∙ append_assoc (marked_text n) (byte "," ∷ expression_text (l ∷ y)) t in
    let same = one_marked m n behind_m behind_n pm.0 pn.0 (comma_ends _) (comma_ends _) whole in
    list_place (k ∷ x) (l ∷ y) s t a b (omega arith) (omega arith) pm.1 pn.1 ha hb
    (ap (drop 1) same.1)

-- a text has one leftmost fault at most
pub one_fault : (text : List ℕ) (a b : ExpressionFault) → HasLeftmostFault text a
    → HasLeftmostFault text b → a ≡ b
one_fault text a b ha hb =
    let place : ha.rest ≡ hb.rest =
    list_place ha.expression hb.expression ha.rest hb.rest a b ha.read.some hb.read.some
    ha.read.each hb.read.each ha.faulty hb.faulty
    (sym (ap (λ x. x ++ ha.rest) ha.read.spelled) ∙ sym ha.split ∙ hb.split
    ∙ ap (λ x. x ++ hb.rest) hb.read.spelled) in
    one_begins hb.rest a b (subst (λ (x : List ℕ). BeginsFaulty x a) place ha.faulty) hb.faulty
