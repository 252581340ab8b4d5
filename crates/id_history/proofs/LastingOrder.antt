-- What is left, in the order of the ids' octets.
use Rattle.std.proofs.Common.{◌≡◌, ◌∙◌, ◌<◌, ◌+◌, ap, sym, refl, subst, false, List, ℕ}
use Rattle.std.proofs.Common.{[]}
use Rattle.std.proofs.Common.{◌∷◌, map, length, arith, Ordering, Less, Equal, Greater}
use Rattle.std.proofs.Math.ListN.{get_or}
use Rattle.std.proofs.lemmas.Bool.{true≢false}
use Rattle.std.proofs.lemmas.Cmp.{nat_list_cmp_total}
use Rattle.std.proofs.lemmas.Fn.{always_returns_same}
use Rattle.std.proofs.lemmas.List.{get_or-map, length-map}
use Rattle.std.proofs.lemmas.List.Elements.{All-from_recursion, recursion_from_All}
use Rattle.std.proofs.lemmas.List.Sorted.{ranks_by, IsPermutation-map, All-permutation}
use Rattle.std.proofs.lemmas.List.Sorted.{Contains-permutation}
use Rattle.std.proofs.lemmas.Map.Keys.{apart_from_distinct, IsDistinct-IsPermutation}
use Rattle.std.proofs.lemmas.Map.Keys.{sorted_from_all_adjacent}
use Rattle.std.proofs.lemmas.Map.Made.{is_member-Decides}
use Rattle.std.proofs.lemmas.Map.Text.{is_eq-slice_cmp}
use Rattle.std.proofs.lemmas.Slice.Eq.{bytes_eq-Decides}
use Rattle.std.specs.Cmp.Lexicographic.{slice_cmp, nat_list_eq_equiv}
use Rattle.std.specs.Fn.{Called}
use Rattle.std.specs.List.{IsDistinct}
use Rattle.std.specs.List.Sorted.{IsPermutation, IsSortedByClosure, IsSortedBy}
use Rattle.std.specs.List.Sorted.{IsStrictlySortedBy}
use Rattle.std.specs.Ordering.{nat_cmp, is_lt, is_eq, ordering_reverse}
use Rattle.std.specs.Str.{bytes_eq}
use denote.Param.Members.{Mut}
use denote.Ref.{Bor}
use Rattle.id_history.specs.History.{KeptId, Rises}
use Rattle.id_history.specs.Views.{id_view}
use Rattle.id_history.specs.declared.kept.KeptId as kept
use Rattle.relay_model.specs.Claims.{Claim}
use Rattle.id_history.specs.Lasting.{lasting, claim_of_kept, ids_of, HasLasting}
use Rattle.id_history.specs.Lasting.{AreLasting}

-- of two that differ, the second isn't below the first: the first is below it
less_from : (a b : List ℕ) → is_lt (slice_cmp nat_cmp b a) ≡ false → bytes_eq a b ≡ false
    → slice_cmp nat_cmp a b ≡ Less
less_from a b not_below differs =
    by (slice_cmp nat_cmp a b)
    (ap is_lt (sym (nat_list_cmp_total.antisymm b a)) ∙ not_below)
    (is_eq-slice_cmp a b ∙ differs)
  where
    by : (r : Ordering) → is_lt (ordering_reverse r) ≡ false → is_eq r ≡ false → r ≡ Less
    by Less l e = refl
    by Equal l e = absurd (true≢false e)
    by Greater l e = absurd (true≢false l)

-- the ids of a list whose neighbours are in order and that has none twice rise
Rises-from_neighbours : (xs : List kept.KeptId)
    → IsSortedBy (λ x y. is_lt (slice_cmp nat_cmp x.id y.id)) xs
    → IsDistinct bytes_eq (ids_of (map id_view xs)) → Rises (map id_view xs)
unfolding IsStrictlySortedBy
Rises-from_neighbours [] sorted once = tt
Rises-from_neighbours (x ∷ rest) sorted once =
    let xs = x ∷ rest in
    let ids = ids_of (map id_view xs) in
    let long : length ids ≡ length xs =
    length-map (map id_view xs) (λ (one : KeptId). one.id) ∙ length-map xs id_view in
    let at : (k : ℕ) → k < length xs → get_or ids k [] ≡ (get_or xs k x).id = λ k below.
    get_or-map (λ (one : KeptId). one.id) (map id_view xs) k (id_view x) []
    (omega (arith, below, length-map xs id_view))
    ∙ ap (λ (one : KeptId). one.id) (get_or-map id_view xs k x (id_view x) below) in
    sorted_from_all_adjacent nat_list_cmp_total ids [] (λ k below.
    less_from (get_or ids k []) (get_or ids (k + 1) [])
    (ap (λ (p : List ℕ). is_lt (slice_cmp nat_cmp (get_or ids (k + 1) []) p))
    (at k (omega (arith, below, long)))
    ∙ ap (λ (p : List ℕ). is_lt (slice_cmp nat_cmp p (get_or xs k x).id))
    (at (k + 1) (omega (arith, below, long)))
    ∙ sorted k x (omega arith) (omega (arith, below, long)))
    (apart_from_distinct bytes_eq ids k (k + 1) [] once (omega arith) below))

-- the ids of two lists with the same elements
pub ids-permutation : (xs ys : List kept.KeptId) → IsPermutation xs ys
    → IsPermutation (ids_of (map id_view xs)) (ids_of (map id_view ys))
ids-permutation xs ys same =
    IsPermutation-map (λ (one : KeptId). one.id) (map id_view xs) (map id_view ys)
    (IsPermutation-map id_view xs ys same)

-- after a sort by the octets the ids rise
pub Rises-from_sort : {F : Type 0}
    {g : Mut F (Bor kept.KeptId × (Bor kept.KeptId × Unit {0})) Ordering} {f : F}
    (old new : List kept.KeptId) → IsPermutation old new → IsSortedByClosure g f new
    → ((a : Bor kept.KeptId × (Bor kept.KeptId × Unit {0})) (r : Ordering) (f' : F)
    → Called g f a r f' → (r ≡ slice_cmp nat_cmp a.0.now.id a.1.0.now.id) × (f' ≡ f))
    → IsDistinct bytes_eq (ids_of (map id_view old)) → Rises (map id_view new)
Rises-from_sort {g = g} {f = f} old new same sorted compares once =
    Rises-from_neighbours new
    (sorted (λ x y. is_lt (slice_cmp nat_cmp x.id y.id))
    (ranks_by nat_list_cmp_total (λ (x : kept.KeptId). x.id))
    (always_returns_same g
    (λ a r. is_lt r ≡ is_lt (slice_cmp nat_cmp a.0.now.id a.1.0.now.id)) f
    (λ a r f' k. (ap is_lt (compares a r f' k).0, (compares a r f' k).1))))
    (IsDistinct-IsPermutation bytes_eq nat_list_eq_equiv.symm (ids_of (map id_view old))
    (ids_of (map id_view new)) (ids-permutation old new same) once)

-- what was gathered is all that is left, once it is in order
pub AreLasting-sorted : (gathered sorted : List kept.KeptId) → IsPermutation gathered sorted
    → (IsDistinct bytes_eq (ids_of (map id_view gathered)) → Rises (map id_view sorted))
    → (claims : List ℕ → Claim) → HasLasting (map id_view gathered) claims
    → AreLasting (map id_view sorted) claims
AreLasting-sorted gathered sorted same rises claims are =
    let P : KeptId → Type 0 = λ one. claim_of_kept one ≡ lasting (claims one.id) in
    let ids = ids_of (map id_view gathered) in
    let ordered = ids_of (map id_view sorted) in
    record {
      rises = rises are.once;
      each = recursion_from_All P (map id_view sorted)
          (All-permutation P (map id_view gathered) (map id_view sorted)
          (IsPermutation-map id_view gathered sorted same)
          (All-from_recursion P (map id_view gathered) are.each));
      whole = λ id left. (is_member-Decides bytes_eq-Decides ordered id).1
          (Contains-permutation ids ordered id (ids-permutation gathered sorted same)
          ((is_member-Decides bytes_eq-Decides ids id).0 (are.whole id left)));
    }

-- so is what is shown of it
pub all-sorted : (lent gathered sorted shown : List kept.KeptId) (claims : List ℕ → Claim)
    → lent ≡ gathered → IsPermutation lent sorted
    → (IsDistinct bytes_eq (ids_of (map id_view lent)) → Rises (map id_view sorted))
    → shown ≡ sorted → HasLasting (map id_view gathered) claims
    → AreLasting (map id_view shown) claims
all-sorted lent gathered sorted shown claims same moved rises is are =
    subst (λ (xs : List kept.KeptId). AreLasting (map id_view xs) claims) (sym is)
    (AreLasting-sorted lent sorted moved rises claims
    (subst (λ (xs : List kept.KeptId). HasLasting (map id_view xs) claims) (sym same) are))
