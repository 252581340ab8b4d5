-- Octets between brackets that have no fault are a set.
use Rattle.std.proofs.Common.{◌≡◌, ℕ, ◌<◌, ◌≤◌, Bool, true, false, not, List, [], ◌∷◌, Option, Some}
use Rattle.std.proofs.Common.{None, refl, sym, ap, ◌∙◌, inl, inr, arith}
use Rattle.std.specs.Prelude.{◌&&◌, ◌==◌, nat_le, nat_lt, IsTrue, filter_map, slice_get}
use Rattle.std.specs.List.{list_all}
use Rattle.std.specs.Char.{is_ascii}
use Rattle.std.specs.Str.{byte}
use Rattle.std.proofs.lemmas.Bool.{and_parts, and_from, cases_Bool, leb-true, ltb-true, ltb-false}
use Rattle.std.proofs.lemmas.Bool.{le-leb, lt-ltb, eqb-true}
use Rattle.news_terms.specs.Pattern.{Range, ExpressionFault, BadRange, NonAscii, ranges_of, is_set}
use Rattle.news_terms.specs.Pattern.{range_fault, set_fault, has_no_bracket}

-- a range without a fault
abbrev pub is_fine : Range → Bool
is_fine r = nat_le r.low r.high && is_ascii r.high

-- ranges of which none has a fault are fine
all_fine : (ranges : List Range) → slice_get (filter_map range_fault ranges) 0 ≡ None
    → IsTrue (list_all is_fine ranges)
all_fine [] h = refl
all_fine (r ∷ ranges) h = elim (cases_Bool (nat_lt r.high r.low)) [
  | inl t ↦ absurd (some_none BadRange (sym (first_fault r ranges (bad r t)) ∙ h))
  | inr f ↦ elim (cases_Bool (is_ascii r.high)) [
    | inl a ↦ and_from _ _ (and_from _ _ (le-leb _ _ (ltb-false _ _ f)) a)
        (all_fine ranges (ap (λ (x : List ExpressionFault). slice_get x 0)
        (no_fault r ranges (fine r f a)) ∙ h))
    | inr n ↦ absurd (some_none NonAscii (sym (first_fault r ranges (past r f n)) ∙ h))
  ]
]
  where
    some_none : (x : ExpressionFault) → ◌≡◌ {A = Option ExpressionFault} (Some x) None → ⊥
    some_none x e = cc

    bad : (r : Range) → nat_lt r.high r.low ≡ true → range_fault r ≡ Some BadRange
    bad r t = rw t refl

    past : (r : Range) → nat_lt r.high r.low ≡ false → is_ascii r.high ≡ false
        → range_fault r ≡ Some NonAscii
    past r f n = rw (f, n) refl

    fine : (r : Range) → nat_lt r.high r.low ≡ false → is_ascii r.high ≡ true
        → range_fault r ≡ None
    fine r f a = rw (f, a) refl

    first_fault : (r : Range) (ranges : List Range) {x : ExpressionFault} → range_fault r ≡ Some x
        → slice_get (filter_map range_fault (r ∷ ranges)) 0 ≡ Some x
    first_fault r ranges e = rw e refl

    no_fault : (r : Range) (ranges : List Range) → range_fault r ≡ None
        → filter_map range_fault ranges ≡ filter_map range_fault (r ∷ ranges)
    no_fault r ranges e = rw e refl

-- an octet below an ASCII one is ASCII
low_ascii : (a b : ℕ) → IsTrue (nat_le a b && is_ascii b) → IsTrue (is_ascii a)
low_ascii a b h =
    let parts = and_parts (nat_le a b) (is_ascii b) h in
    let le : a ≤ b = leb-true a b parts.0 in
    let lt : b < 128 = ltb-true b 128 parts.1 in
    lt-ltb a 128 (omega arith)

-- octets of fine ranges are ASCII
fine_ascii : (set : List ℕ) → IsTrue (list_all is_fine (ranges_of set))
    → IsTrue (list_all is_ascii set)
fine_ascii [] h = refl
fine_ascii (a ∷ []) h =
    and_from _ _ (low_ascii a a (and_parts (is_fine (record { low = a; high = a })) true h).0) refl
fine_ascii (a ∷ b ∷ []) h =
    let parts = and_parts (is_fine (record { low = a; high = a }))
    (list_all is_fine (record { low = b; high = b } ∷ [])) h in
    and_from _ _ (low_ascii a a parts.0)
    (and_from _ _ (low_ascii b b
    (and_parts (is_fine (record { low = b; high = b })) true parts.1).0) refl)
fine_ascii (a ∷ b ∷ c ∷ rest) h = elim (cases_Bool (b == byte "-")) [
  | inl t ↦ (let k = rw t at h in
      let parts = and_parts (is_fine (record { low = a; high = c }))
      (list_all is_fine (ranges_of rest)) k in
      let high = (and_parts (nat_le a c) (is_ascii c) parts.0).1 in
      and_from _ _ (low_ascii a c parts.0)
      (and_from _ _ (rw (eqb-true b (byte "-") t) refl)
      (and_from _ _ high (fine_ascii rest parts.1))))
  | inr f ↦ (let k = rw f at h in
      let parts = and_parts (is_fine (record { low = a; high = a }))
      (list_all is_fine (ranges_of (b ∷ c ∷ rest))) k in
      and_from _ _ (low_ascii a a parts.0) (fine_ascii (b ∷ c ∷ rest) parts.1))
]

-- fine ranges are in order
fine_order : (ranges : List Range) → IsTrue (list_all is_fine ranges)
    → IsTrue (list_all (λ r. nat_le r.low r.high) ranges)
fine_order [] h = refl
fine_order (r ∷ ranges) h =
    let parts = and_parts (is_fine r) (list_all is_fine ranges) h in
    and_from _ _ (and_parts (nat_le r.low r.high) (is_ascii r.high) parts.0).0
    (fine_order ranges parts.1)

-- ASCII octets, none a `]`
set_octets : (set : List ℕ) → IsTrue (list_all is_ascii set) → IsTrue (has_no_bracket set)
    → IsTrue (list_all (λ c. is_ascii c && not (c == byte "]")) set)
set_octets [] a n = refl
set_octets (c ∷ set) a n =
    let ap' = and_parts (is_ascii c) (list_all is_ascii set) a in
    let np = and_parts (not (c == byte "]")) (has_no_bracket set) n in
    and_from _ _ (and_from _ _ ap'.0 np.0) (set_octets set ap'.1 np.1)

-- some octets without a fault are a set
pub faultless_set : (set : List ℕ) → (set ≡ [] → ⊥) → has_no_bracket set ≡ true
    → set_fault set ≡ None → IsTrue (is_set set)
faultless_set [] some n f = absurd (some refl)
faultless_set (c ∷ set) some n f =
    let fine = all_fine (ranges_of (c ∷ set)) f in
    and_from _ _ (and_from _ _ refl (set_octets (c ∷ set) (fine_ascii (c ∷ set) fine) n))
    (fine_order (ranges_of (c ∷ set)) fine)
