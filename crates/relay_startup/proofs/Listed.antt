-- A binary search over ids that rise says whether an id is listed that meets a test.
use Rattle.std.proofs.Common.{◌≡◌, ◌∙◌, ◌<◌, ◌≤◌, ℕ, zero, suc, ap, sym, refl, subst, arith, inl}
use Rattle.std.proofs.Common.{inr}
use Rattle.std.proofs.Common.{Bool, true, false, ◌&&◌, List, [], ◌∷◌, map, length, get_or}
use Rattle.std.proofs.Common.{Ordering, Less, Equal, Greater, Err}
use Rattle.std.proofs.lemmas.Bool.{cases_eq, cases_lt}
use Rattle.std.proofs.lemmas.Cmp.{nat_list_cmp_total}
use Rattle.std.proofs.lemmas.List.{get_or-map, length-map}
use Rattle.std.proofs.lemmas.List.Folds.{list_any_at, list_any_none}
use Rattle.std.proofs.lemmas.Map.Keys.{sorted_tail}
use Rattle.std.proofs.lemmas.Map.Lookups.{exact_bytes}
use Rattle.std.proofs.lemmas.Map.Text.{is_eq-slice_cmp}
use Rattle.std.proofs.lemmas.Map.Views.{All-after_first}
use Rattle.std.specs.Cmp.Lexicographic.{slice_cmp}
use Rattle.std.specs.List.Sorted.{IsBinarySearchResult, IsNonDecreasingBy}
use Rattle.std.specs.List.Sorted.{IsStrictlySortedBy}
use Rattle.std.specs.List.{list_any}
use Rattle.std.specs.Ordering.{nat_cmp, is_eq, ordering_index, ordering_reverse}
use Rattle.std.specs.Str.{bytes_eq}
use Rattle.id_history.specs.History.{KeptId, Rises}
use Rattle.id_history.specs.Views.{id_view}
use Rattle.id_history.specs.declared.kept.KeptId as kept

-- of a list that rises each item is below each later one
below : {K : Type 0} (c : K → K → Ordering) (ks : List K) (a b : ℕ) (d : K)
    → IsStrictlySortedBy c ks → a < b → b < length ks → c (get_or ks a d) (get_or ks b d) ≡ Less
below c [] a b d rises before within = absurd (omega (arith, within))
below c (k ∷ ks) zero zero d rises before within = absurd (omega (arith, before))
below c (k ∷ ks) zero (suc b) d rises before within =
    All-after_first c k ks rises b d (omega (arith, within))
below c (k ∷ ks) (suc a) zero d rises before within = absurd (omega (arith, before))
below c (k ∷ ks) (suc a) (suc b) d rises before within =
    below c ks a b d (sorted_tail c k ks rises) (omega (arith, before)) (omega (arith, within))

-- the octets of two ids, compared
abbrev by_octets : List ℕ → List ℕ → Ordering
by_octets = slice_cmp nat_cmp

-- ids that differ by their octets differ
differ : (a b : List ℕ) (r : Ordering) → by_octets a b ≡ r → is_eq r ≡ false
    → bytes_eq a b ≡ false
differ a b r is apart = sym (is_eq-slice_cmp a b) ∙ ap is_eq is ∙ apart

-- what comes before is no greater
no_greater : (a b x : List ℕ) → by_octets a b ≡ Less
    → ordering_index (by_octets a x) ≤ ordering_index (by_octets b x)
no_greater a b x before = by (by_octets b x) refl
  where
    low : by_octets a x ≡ Less → (n : ℕ) → ordering_index (by_octets a x) ≤ n
    low is n = rw is (omega arith)

    most : (r : Ordering) → ordering_index r ≤ 2
    most Less = omega arith
    most Equal = omega arith
    most Greater = omega arith

    by : (r : Ordering) → by_octets b x ≡ r
        → ordering_index (by_octets a x) ≤ ordering_index (by_octets b x)
    by Less is = low (nat_list_cmp_total.trans a b x before is) _
    by Equal is = low (subst (λ y. by_octets a y ≡ Less) (exact_bytes b x is) before) _
    by Greater is = rw is (most (by_octets a x))

module _ (found : List kept.KeptId) (rises : Rises (map id_view found)) (one : kept.KeptId)
    (test : KeptId → Bool) where
  -- the id at a place
  id_at : (k : ℕ) (d : kept.KeptId) → k < length found
      → get_or (map (λ (x : KeptId). x.id) (map id_view found)) k d.id ≡ (get_or found k d).id
  id_at k d within =
      get_or-map (λ (x : KeptId). x.id) (map id_view found) k (id_view d) d.id
      (omega (arith, within, length-map found id_view))
      ∙ ap (λ (x : KeptId). x.id) (get_or-map id_view found k d (id_view d) within)

  -- an earlier one is below a later one
  rise : (a b : ℕ) (d : kept.KeptId) → a < b → b < length found
      → by_octets (get_or found a d).id (get_or found b d).id ≡ Less
  rise a b d before within =
      let ids = map (λ (x : KeptId). x.id) (map id_view found) in
      subst (λ y. by_octets (get_or found a d).id y ≡ Less) (id_at b d within)
      (subst (λ x. by_octets x (get_or ids b d.id) ≡ Less)
      (id_at a d (omega (arith, before, within)))
      (below by_octets ids a b d.id rises before (omega (
        arith,
        within,
        length-map found id_view,
        length-map (map id_view found) (λ (x : KeptId). x.id),
      ))))

  -- compared with the one that is looked for they don't fall
  rises_by : IsNonDecreasingBy (λ (x : kept.KeptId). ordering_index (by_octets x.id one.id)) found
  rises_by a b d le within =
      elim (cases_eq a b) [
        | inl same ↦ rw same (omega arith)
        | inr apart ↦ no_greater (get_or found a d).id (get_or found b d).id one.id
            (rise a b d (omega (arith, le, apart)) within)
      ]

  -- whether one has its octets, and meets the test
  abbrev is_it : KeptId → Bool
  is_it other = bytes_eq other.id (id_view one).id && test other

  -- none is, where each fails
  none_is : (d : kept.KeptId)
      → ((k : ℕ) → k < length found → is_it (id_view (get_or found k d)) ≡ false)
      → list_any is_it (map id_view found) ≡ false
  none_is d each =
      list_any_none is_it (map id_view found) (λ k e within.
      ap is_it (get_or-map id_view found k d e (omega (arith, within, length-map found id_view)))
      ∙ each k (omega (arith, within, length-map found id_view)))

  -- one that differs by its octets is none
  apart : (other : kept.KeptId) (r : Ordering) → by_octets other.id one.id ≡ r → is_eq r ≡ false
      → is_it (id_view other) ≡ false
  apart other r is no_tie =
      ap (λ b. b && test (id_view other))
      (differ other.id one.id r is no_tie)

  -- the one that is found at a place is the only one
  pub at_place : (i : ℕ) → i < length found
      → ((d : kept.KeptId) → by_octets (get_or found i d).id one.id ≡ Equal) → (d : kept.KeptId)
      → test (id_view (get_or found i d)) ≡ list_any is_it (map id_view found)
  at_place i within ties d = by (test (id_view (get_or found i d))) refl
    where
      tie : bytes_eq (get_or found i d).id one.id ≡ true
      tie = sym (is_eq-slice_cmp (get_or found i d).id one.id) ∙ ap is_eq (ties d)

      same : (get_or found i d).id ≡ one.id
      same = exact_bytes (get_or found i d).id one.id (ties d)

      other : test (id_view (get_or found i d)) ≡ false
          → (k : ℕ) → k < length found → is_it (id_view (get_or found k d)) ≡ false
      other no_token k here =
          elim (cases_eq k i) [
            | inl at ↦ rw (at, tie) no_token
            | inr off ↦ elim (cases_lt k i) [
              | inl before ↦ apart (get_or found k d) Less
                  (subst (λ y. by_octets (get_or found k d).id y ≡ Less) same
                  (rise k i d before within)) refl
              | inr behind ↦ apart (get_or found k d) Greater
                  (subst (λ y. by_octets (get_or found k d).id y ≡ Greater) same
                  (nat_list_cmp_total.antisymm (get_or found k d).id (get_or found i d).id
                  ∙ ap ordering_reverse (rise i k d (omega (arith, behind, off)) here))) refl
            ]
          ]

      by : (b : Bool) → test (id_view (get_or found i d)) ≡ b
          → test (id_view (get_or found i d)) ≡ list_any is_it (map id_view found)
      by true is =
          is ∙ sym (list_any_at is_it (map id_view found) i (id_view d)
          (omega (arith, within, length-map found id_view))
          (ap is_it (get_or-map id_view found i d (id_view d) within) ∙ rw tie is))
      by false is = is ∙ sym (none_is d (other is))

  -- where a search has found none there is none
  pub nowhere : (i : ℕ) → IsBinarySearchResult (λ (x : kept.KeptId). by_octets x.id one.id) found
      (Err i)
      → (d : kept.KeptId) → list_any is_it (map id_view found) ≡ false
  nowhere i searched d =
      let parted = searched rises_by in
      none_is d (λ k within.
      elim (cases_lt k i) [
        | inl before ↦ apart (get_or found k d) Less
            (parted.0 k d (omega arith) before) refl
        | inr behind ↦ apart (get_or found k d) Greater
            (parted.1 k d behind within) refl
      ])
