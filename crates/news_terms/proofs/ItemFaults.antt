-- No fault begins at a part of a pattern that can be written.
use Rattle.std.proofs.Common.{◌≡◌, ℕ, ◌+◌, ◌<◌, Bool, true, false, not, ◌&&◌, List, [], ◌∷◌, ◌++◌}
use Rattle.std.proofs.Common.{length, drop, Option, Some, None, codes, refl, sym, ap, subst, ◌∙◌}
use Rattle.std.proofs.Common.{inl, inr, append_assoc, arith}
use Rattle.std.specs.Prelude.{◌≢◌, nat_eq, nat_le, nat_lt, ◌==◌, IsTrue, filter_map}
use Rattle.std.specs.Prelude.{slice_get, slice_index}
use Rattle.std.specs.List.{list_all, list_any, starts_with}
use Rattle.std.specs.Char.{is_ascii}
use Rattle.std.specs.Str.{byte}
use Rattle.std.proofs.lemmas.Bool.{and_parts, and_from, or_parts, not-true, both_ways, eq-eqb}
use Rattle.std.proofs.lemmas.Bool.{leb-true, ltb-true, le-ltb, cases_Bool}
use Rattle.std.proofs.lemmas.List.Folds.{list_all-append}
use Rattle.news_terms.specs.Article.{is_empty}
use Rattle.news_terms.specs.Pattern.{Range, Item, Star, AnyOctet, Literal, Escaped, OneOf, NoneOf}
use Rattle.news_terms.specs.Pattern.{is_item, is_set}
use Rattle.news_terms.specs.Pattern.{item_text}
use Rattle.news_terms.specs.Pattern.{has_no_bracket, ranges_of}
use Rattle.news_terms.specs.Pattern.{range_fault, set_fault, ExpressionFault, OpenSet, EmptySet}
use Rattle.news_terms.specs.Pattern.{BadRange, DanglingEscape, NonAscii, BeginsFaultySet, in_set}
use Rattle.news_terms.specs.Pattern.{in_reverse, BeginsFaulty}
use Rattle.news_terms.proofs.ExpressionReadings.{is_bracket}

-- the octet that a text begins with
abbrev pub head : List ℕ → ℕ
head text = slice_index text 0

-- what begins with a faulty set begins with `[`
pub set_head : (text : List ℕ) (fault : ExpressionFault) → BeginsFaultySet text fault
    → head text ≡ byte "["
set_head text fault (in_set set more e n k f) = ap head e
set_head text fault (in_reverse set more e n f) = ap head e

-- a fault begins with `[`, with `\` or with an octet past ASCII
pub fault_head : (text : List ℕ) (fault : ExpressionFault) → head text ≢ byte "["
    → head text ≢ byte "\\"
    → head text < 128 → BeginsFaulty text fault → ⊥
fault_head text OpenSet set escape low h = set (ap head h.1)
fault_head text EmptySet set escape low h =
    elim h.1 [ inl e ↦ set (ap head e) | inr e ↦ set (ap head e) ]
fault_head text BadRange set escape low h = set (set_head text BadRange h)
fault_head text DanglingEscape set escape low h = escape (ap head h)
fault_head text NonAscii set escape low h = elim h [
  | inl p ↦ elim p.3 [
    | inl e ↦ (let same : head text ≡ p.0 = ap head e in let high = p.2 in
        omega (arith, same, high, low))
    | inr e ↦ escape (ap head e)
  ]
  | inr s ↦ set (set_head text NonAscii s)
]

-- no fault begins at an octet behind a `\`
pub escaped_fault : (c : ℕ) (rest : List ℕ) (fault : ExpressionFault) → IsTrue (is_ascii c)
    → BeginsFaulty (byte "\\" ∷ c ∷ rest) fault → ⊥
escaped_fault c rest OpenSet h w = let e : byte "\\" ≡ byte "[" = ap head w.1 in omega (arith, e)
escaped_fault c rest EmptySet h w = elim w.1 [
  | inl e ↦ (let x : byte "\\" ≡ byte "[" = ap head e in omega (arith, x))
  | inr e ↦ (let x : byte "\\" ≡ byte "[" = ap head e in omega (arith, x))
]
escaped_fault c rest BadRange h w =
    let e : byte "\\" ≡ byte "[" = set_head (byte "\\" ∷ c ∷ rest) BadRange w in omega (arith, e)
escaped_fault c rest DanglingEscape h w =
    let e : 2 + length rest ≡ 1 = omega (arith, ap length w) in omega (arith, e)
escaped_fault c rest NonAscii h w = elim w [
  | inl p ↦ elim p.3 [
    | inl e ↦ (let x : byte "\\" ≡ p.0 = ap head e in let high = p.2 in omega (arith, x, high))
    | inr e ↦ (let x : c ≡ p.0 = ap (λ t. slice_index t 1) e in let high = p.2 in
        let low : c < 128 = ltb-true c 128 h in omega (arith, x, high, low))
  ]
  | inr s ↦ (let e : byte "\\" ≡ byte "[" = set_head (byte "\\" ∷ c ∷ rest) NonAscii s in
      omega (arith, e))
]

-- the octets of a set
pub set_octets : (set : List ℕ) → IsTrue (is_set set)
    → IsTrue (list_all (λ c. is_ascii c && not (is_bracket c)) set)
set_octets set h = (and_parts (not (is_empty set)) _ (and_parts _ _ h).0).1

-- so no octet of it is a `]`
pub no_bracket : (set : List ℕ) → IsTrue (list_all (λ c. is_ascii c && not (is_bracket c)) set)
    → IsTrue (has_no_bracket set)
no_bracket [] h = refl
no_bracket (c ∷ set) h =
    let parts = and_parts (is_ascii c && not (is_bracket c))
    (list_all (λ x. is_ascii x && not (is_bracket x)) set) h in
    and_from _ _ (and_parts (is_ascii c) (not (is_bracket c)) parts.0).1 (no_bracket set parts.1)

-- two texts before a `]` that have none are the same
pub one_set : (x y s t : List ℕ) → IsTrue (has_no_bracket x) → IsTrue (has_no_bracket y)
    → x ++ byte "]" ∷ s ≡ y ++ byte "]" ∷ t → (x ≡ y) × (s ≡ t)
one_set [] [] s t hx hy e = (refl, cc)
one_set [] (d ∷ y) s t hx hy e =
    let same : d ≡ byte "]" = cc in
    absurd (both_ways _ (not-true _ (and_parts (not (d == byte "]")) (has_no_bracket y) hy).0)
    (eq-eqb d (byte "]") same))
one_set (c ∷ x) [] s t hx hy e =
    let same : c ≡ byte "]" = cc in
    absurd (both_ways _ (not-true _ (and_parts (not (c == byte "]")) (has_no_bracket x) hx).0)
    (eq-eqb c (byte "]") same))
one_set (c ∷ x) (d ∷ y) s t hx hy e =
    let tails : x ++ byte "]" ∷ s ≡ y ++ byte "]" ∷ t = cc in
    let rest = one_set x y s t (and_parts (not (c == byte "]")) (has_no_bracket x) hx).1
    (and_parts (not (d == byte "]")) (has_no_bracket y) hy).1 tails in
    (cc, rest.1)

-- an octet that may stand in a set
abbrev pub is_set_octet : ℕ → Bool
is_set_octet c = is_ascii c && not (is_bracket c)

-- the first octet of a set is ASCII, and the others may stand in one
pub first_octet : (c : ℕ) (set : List ℕ) → IsTrue (list_all is_set_octet (c ∷ set))
    → IsTrue (is_ascii c) × IsTrue (list_all is_set_octet set)
first_octet c set h =
    let parts = and_parts (is_set_octet c) (list_all is_set_octet set) h in
    ((and_parts (is_ascii c) (not (is_bracket c)) parts.0).0, parts.1)

-- the ranges of ASCII octets end in ASCII
pub ranges_ascii : (set : List ℕ) → IsTrue (list_all is_set_octet set)
    → IsTrue (list_all (λ r. is_ascii r.high) (ranges_of set))
ranges_ascii [] h = refl
ranges_ascii (a ∷ []) h = and_from _ _ (first_octet a [] h).0 refl
ranges_ascii (a ∷ b ∷ []) h =
    let x = first_octet a (b ∷ []) h in
    and_from _ _ x.0 (and_from _ _ (first_octet b [] x.1).0 refl)
ranges_ascii (a ∷ b ∷ c ∷ rest) h =
    let x = first_octet a (b ∷ c ∷ rest) h in
    let y = first_octet b (c ∷ rest) x.1 in
    let z = first_octet c rest y.1 in
    elim (cases_Bool (b == byte "-")) [
      | inl t ↦ rw t (and_from _ _ z.0 (ranges_ascii rest z.1))
      | inr n ↦ rw n (and_from _ _ x.0 (ranges_ascii (b ∷ c ∷ rest) x.1))
    ]

-- a range in order that ends in ASCII has no fault
pub no_range_fault : (ranges : List Range) → IsTrue (list_all (λ r. nat_le r.low r.high) ranges)
    → IsTrue (list_all (λ r. is_ascii r.high) ranges) → filter_map range_fault ranges ≡ []
no_range_fault [] h k = refl
no_range_fault (r ∷ ranges) h k =
    let order = and_parts (nat_le r.low r.high) (list_all (λ x. nat_le x.low x.high) ranges) h in
    let high = and_parts (is_ascii r.high) (list_all (λ x. is_ascii x.high) ranges) k in
    let fine : nat_lt r.high r.low ≡ false = le-ltb r.high r.low (leb-true r.low r.high order.0) in
    rw (fine, high.0) (no_range_fault ranges order.1 high.1)

-- none is not some
pub none_is_none : (x : ExpressionFault) → ◌≡◌ {A = Option ExpressionFault} None (Some x) → ⊥
none_is_none x e = cc

-- a set has no fault
pub no_set_fault : (set : List ℕ) (fault : ExpressionFault) → IsTrue (is_set set)
    → set_fault set ≡ Some fault → ⊥
no_set_fault set fault h f =
    let none = no_range_fault (ranges_of set) (and_parts _ _ h).1
    (ranges_ascii set (set_octets set h)) in
    none_is_none fault (sym (ap (λ (x : List ExpressionFault). slice_get x 0) none) ∙ f)

-- what stands behind `[` in a set and what follows it
pub one_octet_set : (set rest : List ℕ) → (set ++ byte "]" ∷ []) ++ rest ≡ set ++ byte "]" ∷ rest
one_octet_set set rest = append_assoc set (codes "]") rest

-- a text without a `]` is none that has one
pub bracket_stands : (set rest more : List ℕ) → more ≡ set ++ byte "]" ∷ rest
    → IsTrue (has_no_bracket more) → ⊥
bracket_stands set rest more e h =
    let all : has_no_bracket (set ++ byte "]" ∷ rest) ≡ true =
    subst (λ (x : List ℕ). IsTrue (has_no_bracket x)) e h in
    let parts = and_parts (has_no_bracket set) (has_no_bracket (byte "]" ∷ rest))
    (sym (list_all-append (λ c. not (c == byte "]")) set (byte "]" ∷ rest)) ∙ all) in
    both_ways _ refl parts.1

-- the first octet of a set is no `]`
pub not_bracket : (d : ℕ) (set : List ℕ) → IsTrue (is_set (d ∷ set)) → d ≢ byte "]"
not_bracket d set h e =
    let octets = no_bracket (d ∷ set) (set_octets (d ∷ set) h) in
    both_ways _ (not-true _ (and_parts (not (d == byte "]")) (has_no_bracket set) octets).0)
    (eq-eqb d (byte "]") e)

-- and of one that is not reversed no `^`
pub not_caret : (d : ℕ) (set : List ℕ) → IsTrue (is_item (OneOf (d ∷ set))) → d ≢ byte "^"
not_caret d set h e =
    let parts = and_parts (is_set (d ∷ set)) (not (starts_with nat_eq (d ∷ set) (codes "^"))) h in
    both_ways _ refl (subst (λ x. not (starts_with nat_eq (x ∷ set) (codes "^")) ≡ true) e parts.1)

-- a set that can be written is none that is faulty
pub own_set_fault : (d : ℕ) (set rest : List ℕ) (fault : ExpressionFault)
    → IsTrue (is_item (OneOf (d ∷ set)))
    → BeginsFaultySet (byte "[" ∷ ((d ∷ set) ++ byte "]" ∷ rest)) fault → ⊥
own_set_fault d set rest fault h (in_set other more e n k f) =
    let good = (and_parts (is_set (d ∷ set))
    (not (starts_with nat_eq (d ∷ set) (codes "^"))) h).0 in
    let tails : (d ∷ set) ++ byte "]" ∷ rest ≡ other ++ byte "]" ∷ more =
    ap (drop 1) e ∙ one_octet_set other more in
    let same = one_set (d ∷ set) other rest more
    (no_bracket (d ∷ set) (set_octets (d ∷ set) good)) n tails in
    no_set_fault (d ∷ set) fault good (ap set_fault same.0 ∙ f)
own_set_fault d set rest fault h (in_reverse other more e n f) =
    not_caret d set h (ap (λ t. slice_index t 1) e)

-- no fault begins at a set
pub set_item_fault : (set rest : List ℕ) (fault : ExpressionFault) → IsTrue (is_item (OneOf set))
    → BeginsFaulty (byte "[" ∷ (set ++ byte "]" ∷ rest)) fault → ⊥
set_item_fault [] rest fault h w = both_ways _ refl h
set_item_fault (d ∷ set) rest OpenSet h w =
    bracket_stands (d ∷ set) rest w.0 (ap (drop 1) (sym w.1)) w.2
set_item_fault (d ∷ set) rest EmptySet h w =
    let good = (and_parts (is_set (d ∷ set))
    (not (starts_with nat_eq (d ∷ set) (codes "^"))) h).0 in
    elim w.1 [
      | inl e ↦ not_bracket d set good (ap (λ t. slice_index t 1) e)
      | inr e ↦ not_caret d set h (ap (λ t. slice_index t 1) e)
    ]
set_item_fault (d ∷ set) rest BadRange h w = own_set_fault d set rest BadRange h w
set_item_fault (d ∷ set) rest DanglingEscape h w = let e : byte "[" ≡ byte "\\" = ap head w in
    omega (arith, e)
set_item_fault (d ∷ set) rest NonAscii h w = elim w [
  | inl p ↦ elim p.3 [
    | inl e ↦ (let x : byte "[" ≡ p.0 = ap head e in let high = p.2 in omega (arith, x, high))
    | inr e ↦ (let x : byte "[" ≡ byte "\\" = ap head e in omega (arith, x))
  ]
  | inr f ↦ own_set_fault d set rest NonAscii h f
]

-- the reverse of a set that can be written is none that is faulty
pub own_reverse_fault : (d : ℕ) (set rest : List ℕ) (fault : ExpressionFault)
    → IsTrue (is_set (d ∷ set))
    → BeginsFaultySet (byte "[" ∷ byte "^" ∷ ((d ∷ set) ++ byte "]" ∷ rest)) fault → ⊥
own_reverse_fault d set rest fault h (in_set [] more e n k f) =
    let x : byte "^" ≡ byte "]" = ap (λ t. slice_index t 1) e in omega (arith, x)
own_reverse_fault d set rest fault h (in_set (c ∷ other) more e n k f) =
    let x : byte "^" ≡ c = ap (λ t. slice_index t 1) e in
    both_ways _ (subst (λ y. starts_with nat_eq (y ∷ other) (codes "^") ≡ false) (sym x) k) refl
own_reverse_fault d set rest fault h (in_reverse other more e n f) =
    let tails : (d ∷ set) ++ byte "]" ∷ rest ≡ other ++ byte "]" ∷ more =
    ap (drop 2) e ∙ one_octet_set other more in
    let same = one_set (d ∷ set) other rest more
    (no_bracket (d ∷ set) (set_octets (d ∷ set) h)) n tails in
    no_set_fault (d ∷ set) fault h (ap set_fault same.0 ∙ f)

-- no fault begins at the reverse of a set
pub reverse_item_fault : (set rest : List ℕ) (fault : ExpressionFault) → IsTrue (is_set set)
    → BeginsFaulty (byte "[" ∷ byte "^" ∷ (set ++ byte "]" ∷ rest)) fault → ⊥
reverse_item_fault [] rest fault h w = both_ways _ refl h
reverse_item_fault (d ∷ set) rest OpenSet h w =
    bracket_stands (byte "^" ∷ d ∷ set) rest w.0 (ap (drop 1) (sym w.1)) w.2
reverse_item_fault (d ∷ set) rest EmptySet h w = elim w.1 [
  | inl e ↦ (let x : byte "^" ≡ byte "]" = ap (λ t. slice_index t 1) e in omega (arith, x))
  | inr e ↦ not_bracket d set h (ap (λ t. slice_index t 2) e)
]
reverse_item_fault (d ∷ set) rest BadRange h w = own_reverse_fault d set rest BadRange h w
reverse_item_fault (d ∷ set) rest DanglingEscape h w = let e : byte "[" ≡ byte "\\" = ap head w in
    omega (arith, e)
reverse_item_fault (d ∷ set) rest NonAscii h w = elim w [
  | inl p ↦ elim p.3 [
    | inl e ↦ (let x : byte "[" ≡ p.0 = ap head e in let high = p.2 in omega (arith, x, high))
    | inr e ↦ (let x : byte "[" ≡ byte "\\" = ap head e in omega (arith, x))
  ]
  | inr f ↦ own_reverse_fault d set rest NonAscii h f
]

-- no fault begins at a part of a pattern
pub item_fault : (i : Item) (rest : List ℕ) (fault : ExpressionFault) → IsTrue (is_item i)
    → BeginsFaulty (item_text i ++ rest) fault → ⊥
item_fault Star rest fault h w =
    fault_head (byte "*" ∷ rest) fault (λ e. omega (arith, e)) (λ e. omega (arith, e))
    (omega arith) w
item_fault AnyOctet rest fault h w =
    fault_head (byte "?" ∷ rest) fault (λ e. omega (arith, e)) (λ e. omega (arith, e))
    (omega arith) w
item_fault (Literal c) rest fault h w =
    let plain = and_parts (is_ascii c) (not (list_any (λ x. c == x) (codes "*?[\\,"))) h in
    let none = not-true (list_any (λ x. c == x) (codes "*?[\\,")) plain.1 in
    let star = or_parts (c == byte "*") (list_any (λ x. c == x) (codes "?[\\,")) none in
    let any = or_parts (c == byte "?") (list_any (λ x. c == x) (codes "[\\,")) star.1 in
    let open_set = or_parts (c == byte "[") (list_any (λ x. c == x) (codes "\\,")) any.1 in
    let escape = or_parts (c == byte "\\") (list_any (λ x. c == x) (codes ",")) open_set.1 in
    fault_head (c ∷ rest) fault
    (λ e. both_ways _ open_set.0 (eq-eqb c (byte "[") e))
    (λ e. both_ways _ escape.0 (eq-eqb c (byte "\\") e))
    (ltb-true c 128 plain.0) w
item_fault (Escaped c) rest fault h w = escaped_fault c rest fault h w
item_fault (OneOf set) rest fault h w =
    set_item_fault set rest fault h
    (subst (λ (x : List ℕ). BeginsFaulty (byte "[" ∷ x) fault) (one_octet_set set rest) w)
item_fault (NoneOf set) rest fault h w =
    reverse_item_fault set rest fault h
    (subst (λ (x : List ℕ). BeginsFaulty (byte "[" ∷ byte "^" ∷ x) fault)
    (one_octet_set set rest) w)
