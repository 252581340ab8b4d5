-- A text is one expression at most.
use Rattle.std.proofs.Common.{◌≡◌, ℕ, ◌+◌, ◌<◌, Bool, true, false, not, ◌&&◌, List, [], ◌∷◌, ◌++◌}
use Rattle.std.proofs.Common.{length, take, drop, Option, Some, None, codes, refl, sym, ap, subst}
use Rattle.std.proofs.Common.{◌∙◌, append_assoc, arith}
use Rattle.std.specs.Prelude.{◌≢◌, nat_eq, ◌==◌, if◌then◌else◌, IsTrue, flat_map, unwrap_or}
use Rattle.std.specs.List.{list_all, list_any, before_first, after_first, position_or_len}
use Rattle.std.specs.List.{starts_with}
use Rattle.std.specs.Char.{is_ascii}
use Rattle.std.specs.Str.{byte}
use Rattle.std.proofs.lemmas.Bool.{and_parts, or_parts, not-true, both_ways, ne_eqb}
use Rattle.std.proofs.lemmas.List.{append-nil}
use Rattle.std.proofs.Math.Seq.{take-append_seam, drop-append-add}
use Rattle.news_terms.specs.Article.{is_empty}
use Rattle.news_terms.specs.Pattern.{Item, Star, AnyOctet, Literal, Escaped, OneOf, NoneOf, Verdict}
use Rattle.news_terms.specs.Pattern.{Match, Fail, Poison, Marked, is_item, is_set, is_marked}
use Rattle.news_terms.specs.Pattern.{begins_unmarked, item_text, marked_text, expression_text}
use Rattle.news_terms.specs.Pattern.{IsExpressionText}

-- a `]`
abbrev pub is_bracket : ℕ → Bool
is_bracket c = c == byte "]"

-- the octet behind a `\`, and what follows it
abbrev pub escaped_in : List ℕ → Option (Item × List ℕ)
escaped_in [] = None
escaped_in (c ∷ rest) = Some (Escaped c, rest)

-- the set behind a `[`, and what follows its `]`
abbrev pub set_in : List ℕ → Option (Item × List ℕ)
set_in [] = None
set_in (c ∷ rest) =
    if c == byte "^" then Some (NoneOf (before_first is_bracket rest), after_first is_bracket rest)
    else Some (OneOf (before_first is_bracket (c ∷ rest)), after_first is_bracket (c ∷ rest))

-- the part that a text begins with, and what follows it; none at its end and at a comma
abbrev pub first_item : List ℕ → Option (Item × List ℕ)
first_item [] = None
first_item (c ∷ rest) =
    if c == byte "*" then Some (Star, rest)
    else (if c == byte "?" then Some (AnyOctet, rest)
    else (if c == byte "[" then set_in rest
    else (if c == byte "\\" then escaped_in rest
    else (if c == byte "," then None
    else Some (Literal c, rest)))))

-- a set ends at the first `]` behind it
bracket_at : (set rest : List ℕ) → IsTrue (list_all (λ c. is_ascii c && not (is_bracket c)) set)
    → position_or_len is_bracket (set ++ byte "]" ∷ rest) ≡ length set
bracket_at [] rest h = refl
bracket_at (c ∷ set) rest h =
    let parts = and_parts (is_ascii c && not (is_bracket c))
    (list_all (λ x. is_ascii x && not (is_bracket x)) set) h in
    let no : is_bracket c ≡ false =
    not-true _ (and_parts (is_ascii c) (not (is_bracket c)) parts.0).1 in
    rw no (ap (λ n. 1 + n) (bracket_at set rest parts.1) ∙ omega arith)

-- so what stands before that `]` is the set
pub before_bracket : (set rest : List ℕ) → IsTrue (is_set set)
    → (before_first is_bracket (set ++ byte "]" ∷ rest) ≡ set)
    × (after_first is_bracket (set ++ byte "]" ∷ rest) ≡ rest)
before_bracket set rest h =
    let octets = (and_parts (not (is_empty set)) _ (and_parts _ _ h).0).1 in
    let at = bracket_at set rest octets in (
      ap (λ n. take n (set ++ byte "]" ∷ rest)) at ∙ take-append_seam set (byte "]" ∷ rest),
      ap (λ n. drop (n + 1) (set ++ byte "]" ∷ rest)) at ∙ drop-append-add set (byte "]" ∷ rest) 1,
    )

-- the part that a written part begins with is that one
pub first_item-text : (i : Item) (rest : List ℕ) → IsTrue (is_item i)
    → first_item (item_text i ++ rest) ≡ Some (i, rest)
first_item-text Star rest h = refl
first_item-text AnyOctet rest h = refl
first_item-text (Literal c) rest h =
    let special : ℕ → Bool = λ x. c == x in
    let none = not-true (list_any special (codes "*?[\\,")) (and_parts (is_ascii c) _ h).1 in
    let star = or_parts (special (byte "*")) (list_any special (codes "?[\\,")) none in
    let any = or_parts (special (byte "?")) (list_any special (codes "[\\,")) star.1 in
    let open_set = or_parts (special (byte "[")) (list_any special (codes "\\,")) any.1 in
    let escape = or_parts (special (byte "\\")) (list_any special (codes ",")) open_set.1 in
    let comma = or_parts (special (byte ",")) false escape.1 in
    rw (star.0, any.0, open_set.0, escape.0, comma.0) refl
first_item-text (Escaped c) rest h = refl
first_item-text (OneOf []) rest h = absurd (both_ways _ refl h)
first_item-text (OneOf (d ∷ set)) rest h =
    let parts = and_parts (is_set (d ∷ set)) (not (starts_with nat_eq (d ∷ set) (codes "^"))) h in
    let no : d ≢ byte "^" = λ e. both_ways _ refl
    (subst (λ x. not (starts_with nat_eq (x ∷ set) (codes "^")) ≡ true) e parts.1) in
    let text : ((d ∷ set) ++ byte "]" ∷ []) ++ rest ≡ (d ∷ set) ++ byte "]" ∷ rest =
    append_assoc (d ∷ set) (codes "]") rest in
    let cut = before_bracket (d ∷ set) rest parts.0 in
    ap set_in text ∙ rw (ne_eqb d (byte "^") no) (λ k. Some (OneOf (cut.0 k), cut.1 k))
first_item-text (NoneOf set) rest h =
    let text : (set ++ byte "]" ∷ []) ++ rest ≡ set ++ byte "]" ∷ rest =
    append_assoc set (codes "]") rest in
    let cut = before_bracket set rest h in
    ap (λ x. set_in (byte "^" ∷ x)) text ∙ (λ k. Some (NoneOf (cut.0 k), cut.1 k))

-- two patterns, each with something behind it that begins no part, are the same
one_pattern : (p q : List Item) (s t : List ℕ) → IsTrue (list_all is_item p)
    → IsTrue (list_all is_item q)
    → first_item s ≡ None → first_item t ≡ None
    → flat_map item_text p ++ s ≡ flat_map item_text q ++ t → (p ≡ q) × (s ≡ t)
one_pattern [] [] s t hp hq hs ht e = (refl, e)
one_pattern [] (j ∷ q) s t hp hq hs ht e =
    let parts = and_parts (is_item j) (list_all is_item q) hq in
    let whole : s ≡ item_text j ++ (flat_map item_text q ++ t) =
    e ∙ append_assoc (item_text j) (flat_map item_text q) t in
    let found : ◌≡◌ {A = Option (Item × List ℕ)} None (Some (j, flat_map item_text q ++ t)) =
    sym hs ∙ ap first_item whole ∙ first_item-text j (flat_map item_text q ++ t) parts.0 in
    absurd cc
one_pattern (i ∷ p) [] s t hp hq hs ht e =
    let parts = and_parts (is_item i) (list_all is_item p) hp in
    let whole : t ≡ item_text i ++ (flat_map item_text p ++ s) =
    sym e ∙ append_assoc (item_text i) (flat_map item_text p) s in
    let found : ◌≡◌ {A = Option (Item × List ℕ)} None (Some (i, flat_map item_text p ++ s)) =
    sym ht ∙ ap first_item whole ∙ first_item-text i (flat_map item_text p ++ s) parts.0 in
    absurd cc
one_pattern (i ∷ p) (j ∷ q) s t hp hq hs ht e =
    let ip = and_parts (is_item i) (list_all is_item p) hp in
    let iq = and_parts (is_item j) (list_all is_item q) hq in
    let whole : item_text i ++ (flat_map item_text p ++ s)
    ≡ item_text j ++ (flat_map item_text q ++ t) =
    sym (append_assoc (item_text i) (flat_map item_text p) s) ∙ e
    ∙ append_assoc (item_text j) (flat_map item_text q) t in
    let both : ◌≡◌ {A = Option (Item × List ℕ)} (Some (i, flat_map item_text p ++ s))
    (Some (j, flat_map item_text q ++ t)) =
    sym (first_item-text i (flat_map item_text p ++ s) ip.0) ∙ ap first_item whole
    ∙ first_item-text j (flat_map item_text q ++ t) iq.0 in
    let found : ◌≡◌ {A = Item × List ℕ} (i, flat_map item_text p ++ s)
    (j, flat_map item_text q ++ t) =
    ap (λ (o : Option (Item × List ℕ)). unwrap_or o (Star, [])) both in
    let same : i ≡ j = ap (λ (x : Item × List ℕ). x.0) found in
    let later : flat_map item_text p ++ s ≡ flat_map item_text q ++ t =
    ap (λ (x : Item × List ℕ). x.1) found in
    let rest = one_pattern p q s t ip.1 iq.1 hs ht later in
    ((λ k. same k ∷ rest.0 k), rest.1)

-- the mark that a text begins with, and what follows it
abbrev pub read_mark : List ℕ → Verdict × List ℕ
read_mark [] = (Match, [])
read_mark (c ∷ rest) =
    if c == byte "!" then (Fail, rest) else
    (if c == byte "@" then (Poison, rest) else (Match, c ∷ rest))

-- a text that begins no mark and no part of a pattern, as the end and a comma
pub record Ends (s : List ℕ) : Type 0 where
  pub no_mark : read_mark s ≡ (Match, s)
  pub no_item : first_item s ≡ None

-- an unmarked pattern is read as one
pub unmarked : (p : List Item) (s : List ℕ) → IsTrue (begins_unmarked p)
    → read_mark s ≡ (Match, s)
    → read_mark (flat_map item_text p ++ s) ≡ (Match, flat_map item_text p ++ s)
unmarked [] s h no_mark = no_mark
unmarked (Star ∷ p) s h no_mark = refl
unmarked (AnyOctet ∷ p) s h no_mark = refl
unmarked (Literal c ∷ p) s h no_mark =
    let parts = or_parts (c == byte "!") (c == byte "@") (not-true _ h) in
    rw (parts.0, parts.1) refl
unmarked (Escaped c ∷ p) s h no_mark = refl
unmarked (OneOf set ∷ p) s h no_mark = refl
unmarked (NoneOf set ∷ p) s h no_mark = refl

-- a pattern is read behind its mark
pub mark_read : (mark : Verdict) (p : List Item) (s : List ℕ)
    → IsTrue (is_marked (record { mark = mark; pattern = p })) → read_mark s ≡ (Match, s)
    → read_mark (marked_text (record { mark = mark; pattern = p }) ++ s)
    ≡ (mark, flat_map item_text p ++ s)
mark_read Match p s h no_mark = unmarked p s (and_parts (list_all is_item p) _ h).1 no_mark
mark_read Fail p s h no_mark = refl
mark_read Poison p s h no_mark = refl

-- two marked patterns, each with an end behind it, are the same
pub one_marked : (m n : Marked) (s t : List ℕ) → IsTrue (is_marked m) → IsTrue (is_marked n)
    → Ends s
    → Ends t
    → marked_text m ++ s ≡ marked_text n ++ t → (m ≡ n) × (s ≡ t)
one_marked m n s t hm hn es et e =
    let both = sym (mark_read m.mark m.pattern s hm es.no_mark) ∙ ap read_mark e
    ∙ mark_read n.mark n.pattern t hn et.no_mark in
    let im = (and_parts (list_all is_item m.pattern) _ hm).0 in
    let inn = (and_parts (list_all is_item n.pattern) _ hn).0 in
    let rest = one_pattern m.pattern n.pattern s t im inn es.no_item et.no_item
    (ap (λ x. x.1) both) in
    ((λ k. record { mark = (both k).0; pattern = rest.0 k }), rest.1)

-- the end, and a comma
pub end_ends : Ends []
end_ends = record { no_mark = refl; no_item = refl }

pub comma_ends : (rest : List ℕ) → Ends (byte "," ∷ rest)
comma_ends rest = record { no_mark = refl; no_item = refl }

-- a text is one list of marked patterns at most
one_list : (a b : List Marked) → 0 < length a → 0 < length b → IsTrue (list_all is_marked a)
    → IsTrue (list_all is_marked b)
    → expression_text a ≡ expression_text b → a ≡ b
one_list [] b some some' ha hb e = absurd (omega (arith, some))
one_list (m ∷ a) [] some some' ha hb e = absurd (omega (arith, some'))
one_list (m ∷ []) (n ∷ []) some some' ha hb e =
    let pm = and_parts (is_marked m) true ha in
    let pn = and_parts (is_marked n) true hb in
    let ended : marked_text m ++ [] ≡ marked_text n ++ [] =
    append-nil (marked_text m) ∙ e ∙ sym (append-nil (marked_text n)) in
    let same = one_marked m n [] [] pm.0 pn.0 end_ends end_ends ended in
    λ k. same.0 k ∷ []
one_list (m ∷ []) (n ∷ x ∷ b) some some' ha hb e =
    let pm = and_parts (is_marked m) true ha in
    let pn = and_parts (is_marked n) (list_all is_marked (x ∷ b)) hb in
    let more = byte "," ∷ expression_text (x ∷ b) in
    let ended : marked_text m ++ [] ≡ marked_text n ++ more = append-nil (marked_text m) ∙ e in
    let same = one_marked m n [] more pm.0 pn.0 end_ends (comma_ends _) ended in
    absurd (cc (same.1))
one_list (m ∷ y ∷ a) (n ∷ []) some some' ha hb e =
    let pm = and_parts (is_marked m) (list_all is_marked (y ∷ a)) ha in
    let pn = and_parts (is_marked n) true hb in
    let more = byte "," ∷ expression_text (y ∷ a) in
    let ended : marked_text m ++ more ≡ marked_text n ++ [] =
    e ∙ sym (append-nil (marked_text n)) in
    let same = one_marked m n more [] pm.0 pn.0 (comma_ends _) end_ends ended in
    absurd (cc (same.1))
one_list (m ∷ y ∷ a) (n ∷ x ∷ b) some some' ha hb e =
    let pm = and_parts (is_marked m) (list_all is_marked (y ∷ a)) ha in
    let pn = and_parts (is_marked n) (list_all is_marked (x ∷ b)) hb in
    let same = one_marked m n (byte "," ∷ expression_text (y ∷ a))
    (byte "," ∷ expression_text (x ∷ b)) pm.0 pn.0 (comma_ends _) (comma_ends _) e in
    let later : expression_text (y ∷ a) ≡ expression_text (x ∷ b) = ap (drop 1) same.1 in
    let others = one_list (y ∷ a) (x ∷ b) (omega arith) (omega arith) pm.1 pn.1 later in
    λ k. same.0 k ∷ others k

-- a text is one expression at most
pub one_expression : (text : List ℕ) (a b : List Marked) → IsExpressionText text a
    → IsExpressionText text b → a ≡ b
one_expression text a b ha hb =
    one_list a b ha.some hb.some ha.each hb.each (sym ha.spelled ∙ hb.spelled)
