-- Each text within a pattern has a part, a comma, a fault or its end in front.
use Rattle.std.proofs.Common.{◌≡◌, ℕ, ◌<◌, ◌+◌, true, false, List, [], ◌∷◌, ◌++◌, length}
use Rattle.std.proofs.Common.{Option, Some, None, refl, sym, ap, subst, ◌∙◌, inl, inr, arith, codes}
use Rattle.std.proofs.Common.{take, drop, length-append}
use Rattle.std.specs.Prelude.{◌==◌, ◌⊎◌, nat_eq, nat_lt, IsTrue, slice_get, filter_map}
use Rattle.std.specs.Char.{is_ascii}
use Rattle.std.specs.List.{position, starts_with}
use Rattle.std.specs.Str.{byte}
use Rattle.std.proofs.lemmas.Bool.{cases_Bool, and_from, not_from_false, eqb-true, ltb-false}
use Rattle.news_terms.specs.Pattern.{Item, Star, AnyOctet, Literal, Escaped, OneOf, NoneOf, Range}
use Rattle.news_terms.specs.Pattern.{ExpressionFault, OpenSet, EmptySet, BadRange, DanglingEscape}
use Rattle.news_terms.specs.Pattern.{NonAscii, BeginsFaulty, has_no_bracket, is_set, set_fault}
use Rattle.news_terms.specs.Pattern.{range_fault, ranges_of}
use Rattle.uwild.specs.Reads.{HasSetFault, IsItemCut}
use Rattle.uwild.proofs.Cuts.{no_bracket, bracket_at, bracket_split, caret_cut}
use Rattle.uwild.proofs.Ranges.{faultless_set}
use Rattle.uwild.proofs.SetFaults.{closed, set_begins, reverse_begins}

-- what stands in front of a text within a pattern
pub data HasFront (text : List ℕ) : Type 0 where
  part : (item : Item) (rest : List ℕ) → IsItemCut text item rest → length rest < length text
      → HasFront text
  comma : (rest : List ℕ) → text ≡ byte "," ∷ rest → HasFront text
  ending : text ≡ [] → HasFront text
  faulty : (fault : ExpressionFault) → BeginsFaulty text fault → HasFront text

-- octets between brackets are a set or have a fault
data IsSetOrFaulty (set : List ℕ) : Type 0 where
  is_good : IsTrue (is_set set) → IsSetOrFaulty set
  is_bad : (fault : ExpressionFault) → HasSetFault set fault → IsSetOrFaulty set

-- the faults of ranges
range_faults : (ranges : List Range) (fault : ExpressionFault)
    → slice_get (filter_map range_fault ranges) 0 ≡ Some fault
    → (fault ≡ BadRange) ⊎ (fault ≡ NonAscii)
range_faults [] fault h = absurd cc
range_faults (r ∷ ranges) fault h = elim (cases_Bool (nat_lt r.high r.low)) [
  | inl t ↦ (let k : Some BadRange ≡ Some fault = rw t at h in inl cc)
  | inr f ↦ elim (cases_Bool (is_ascii r.high)) [
    | inl a ↦ range_faults ranges fault (rw (f, a) at h)
    | inr n ↦ (let k : Some NonAscii ≡ Some fault = rw (f, n) at h in inr cc)
  ]
]

-- octets without a `]` are a set, or have a fault
set_or_faulty : (set : List ℕ) → has_no_bracket set ≡ true → IsSetOrFaulty set
set_or_faulty [] none = is_bad EmptySet refl
set_or_faulty (c ∷ set) none = by_fault (set_fault (c ∷ set)) refl
  where
    by_fault : (found : Option ExpressionFault) → set_fault (c ∷ set) ≡ found
        → IsSetOrFaulty (c ∷ set)
    by_fault None e = is_good (faultless_set (c ∷ set) (λ e. cc) none e)
    by_fault (Some fault) e = elim (range_faults (ranges_of (c ∷ set)) fault e) [
      | inl bad ↦ is_bad BadRange (e ∙ ap (λ (f : ExpressionFault). Some f) bad)
      | inr past ↦ is_bad NonAscii (e ∙ ap (λ (f : ExpressionFault). Some f) past)
    ]

-- what follows a `]` is shorter than what begins with its `[`
behind_set : (between rest : List ℕ)
    → length rest < length (byte "[" ∷ (between ++ byte "]" ∷ rest))
behind_set between rest = simp length-append (omega arith)

-- a set in front of a text
set_front : (set rest : List ℕ) → has_no_bracket set ≡ true
    → starts_with nat_eq set (codes "^") ≡ false → IsSetOrFaulty set
    → HasFront (byte "[" ∷ (set ++ byte "]" ∷ rest))
set_front set rest none plain (is_good good) =
    part (OneOf set) rest
    (record {
      spelled = ap (λ x. byte "[" ∷ x) (closed set rest);
      is_item = and_from _ _ good (not_from_false _ plain);
    })
    (behind_set set rest)
set_front set rest none plain (is_bad fault bad) =
    faulty fault (set_begins set none plain fault bad rest)

-- the reverse of a set in front of a text
reverse_front : (between set rest : List ℕ) → between ≡ byte "^" ∷ set
    → has_no_bracket set ≡ true → IsSetOrFaulty set
    → HasFront (byte "[" ∷ (between ++ byte "]" ∷ rest))
reverse_front between set rest e none (is_good good) =
    part (NoneOf set) rest
    (record {
      spelled = ap (λ x. byte "[" ∷ (x ++ byte "]" ∷ rest)) e
          ∙ ap (λ x. byte "[" ∷ byte "^" ∷ x) (closed set rest);
      is_item = good;
    })
    (behind_set between rest)
reverse_front between set rest e none (is_bad fault bad) =
    faulty fault (reverse_begins between set e none fault bad rest)

-- brackets in front of a text
brackets_front : (between rest : List ℕ) → has_no_bracket between ≡ true
    → HasFront (byte "[" ∷ (between ++ byte "]" ∷ rest))
brackets_front between rest none = elim (cases_Bool (starts_with nat_eq between (codes "^"))) [
  | inl caret ↦
      let cut = caret_cut between caret in
      let behind : has_no_bracket (drop 1 between) ≡ true = ap has_no_bracket (sym cut) ∙ none in
      reverse_front between (drop 1 between) rest cut behind
      (set_or_faulty (drop 1 between) behind)
  | inr plain ↦ set_front between rest none plain (set_or_faulty between none)
]

-- a `[` in front of a text
open_front : (text : List ℕ) (found : Option ℕ) → found ≡ position (λ c. c == byte "]") text
    → HasFront (byte "[" ∷ text)
open_front text None e = faulty OpenSet (text, refl, no_bracket text None e (λ place h. cc))
open_front text (Some place) e =
    let at = bracket_at text place (sym e) in
    subst (λ (x : List ℕ). HasFront (byte "[" ∷ x)) (sym (bracket_split text place at))
    (brackets_front (take place text) (drop (place + 1) text) at.before)

-- a `\` in front of a text
escape_front : (text : List ℕ) → HasFront (byte "\\" ∷ text)
escape_front [] = faulty DanglingEscape refl
escape_front (c ∷ rest) = elim (cases_Bool (is_ascii c)) [
  | inl ascii ↦ part (Escaped c) rest (record { spelled = refl; is_item = ascii }) (omega arith)
  | inr past ↦ faulty NonAscii (inl (c, rest, ltb-false c 128 past, inr refl))
]

-- an octet that isn't special in front of a text
plain_front : (c : ℕ) (rest : List ℕ) → (c == byte "*") ≡ false → (c == byte "?") ≡ false
    → (c == byte "[") ≡ false → (c == byte "\\") ≡ false → (c == byte ",") ≡ false
    → HasFront (c ∷ rest)
plain_front c rest s q b e k = elim (cases_Bool (is_ascii c)) [
  | inl ascii ↦ part (Literal c) rest
      (record { spelled = refl; is_item = rw (ascii, s, q, b, e, k) refl }) (omega arith)
  | inr past ↦ faulty NonAscii (inl (c, rest, ltb-false c 128 past, inl refl))
]

-- an octet in front of a text that is this one
front_of : (own c : ℕ) (rest : List ℕ) → (c == own) ≡ true → HasFront (own ∷ rest)
    → HasFront (c ∷ rest)
front_of own c rest t h = subst (λ (x : ℕ). HasFront (x ∷ rest)) (sym (eqb-true c own t)) h

-- what stands in front of a text
pub each_front : (text : List ℕ) → HasFront text
each_front [] = ending refl
each_front (c ∷ rest) = elim (cases_Bool (c == byte "*")) [
  | inl t ↦ front_of (byte "*") c rest t
      (part Star rest (record { spelled = refl; is_item = refl }) (omega arith))
  | inr s ↦ elim (cases_Bool (c == byte "?")) [
    | inl t ↦ front_of (byte "?") c rest t
        (part AnyOctet rest (record { spelled = refl; is_item = refl }) (omega arith))
    | inr q ↦ elim (cases_Bool (c == byte "[")) [
      | inl t ↦ front_of (byte "[") c rest t (open_front rest _ refl)
      | inr b ↦ elim (cases_Bool (c == byte "\\")) [
        | inl t ↦ front_of (byte "\\") c rest t (escape_front rest)
        | inr e ↦ elim (cases_Bool (c == byte ",")) [
          | inl t ↦ front_of (byte ",") c rest t (comma rest refl)
          | inr k ↦ plain_front c rest s q b e k
        ]
      ]
    ]
  ]
]
