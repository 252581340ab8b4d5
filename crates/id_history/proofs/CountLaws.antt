-- Claims have one number of each kind.
use Rattle.std.proofs.Common.{◌≡◌, ◌∙◌, ◌∷◌, ◌&&◌, [], ap, sym, Bool, true, false, cond, List, ℕ}
use Rattle.std.proofs.lemmas.List.Sums.{length-filter}
use Rattle.std.proofs.lemmas.Map.Made.{length-from_same_keys}
use Rattle.std.proofs.lemmas.Map.Views.{any-filter_same}
use Rattle.std.proofs.lemmas.Slice.Eq.{bytes_eq-Decides}
use Rattle.std.specs.Cmp.Lexicographic.{nat_list_eq_equiv}
use Rattle.std.specs.List.{AllByRecursion, IsDistinct, count_by, filter}
use Rattle.std.specs.Set.{is_member}
use Rattle.std.specs.Str.{bytes_eq}
use Rattle.relay_model.specs.Claims.{Claim, is_storing}
use Rattle.id_history.specs.declared.counts.Counts.{Counts}
use Rattle.id_history.specs.Counts.{is_offered, is_stored, is_refused, CountsOf}

-- what differs from each differs from each that a filter keeps
apart_filter : (keep : List ℕ → Bool) (x : List ℕ) (xs : List (List ℕ))
    → AllByRecursion (λ y. bytes_eq x y ≡ false) xs
    → AllByRecursion (λ y. bytes_eq x y ≡ false) (filter keep xs)
apart_filter keep x [] all = tt
apart_filter keep x (y ∷ ys) all = by (keep y) (apart_filter keep x ys all.1)
  where
    by : (b : Bool) → AllByRecursion (λ z. bytes_eq x z ≡ false) (filter keep ys)
        → AllByRecursion (λ z. bytes_eq x z ≡ false) (cond b (y ∷ filter keep ys) (filter keep ys))
    by true others = (all.0, others)
    by false others = others

-- a filter makes no doubles
pub IsDistinct-filter : (keep : List ℕ → Bool) (xs : List (List ℕ)) → IsDistinct bytes_eq xs
    → IsDistinct bytes_eq (filter keep xs)
unfolding IsDistinct
IsDistinct-filter keep [] once = once
IsDistinct-filter keep (x ∷ xs) once = by (keep x) (IsDistinct-filter keep xs once.1)
  where
    by : (b : Bool) → IsDistinct bytes_eq (filter keep xs)
        → IsDistinct bytes_eq (cond b (x ∷ filter keep xs) (filter keep xs))
    by true others = (apart_filter keep x xs once.0, others)
    by false others = others

-- it keeps the ids that pass
pub member_filter : (keep : List ℕ → Bool) (id : List ℕ) (xs : List (List ℕ))
    → is_member bytes_eq (filter keep xs) id ≡ (keep id && is_member bytes_eq xs id)
member_filter keep id xs =
    any-filter_same (bytes_eq id) keep (keep id)
    (λ k same. ap keep (sym ((bytes_eq-Decides id k).0 same))) xs

-- two lists of the same ids, each without doubles, have as many that pass
count_by-same_ids : (keep : List ℕ → Bool) (xs ys : List (List ℕ)) → IsDistinct bytes_eq xs
    → IsDistinct bytes_eq ys
    → ((id : List ℕ) → is_member bytes_eq xs id ≡ is_member bytes_eq ys id)
    → count_by keep xs ≡ count_by keep ys
count_by-same_ids keep xs ys one other same =
    sym (length-filter keep xs)
    ∙ length-from_same_keys nat_list_eq_equiv (filter keep xs) (filter keep ys)
    (IsDistinct-filter keep xs one) (IsDistinct-filter keep ys other)
    (λ id. member_filter keep id xs ∙ ap (λ b. keep id && b) (same id)
    ∙ sym (member_filter keep id ys))
    ∙ length-filter keep ys

-- counts of the same claims are the same
pub CountsOf-one : (claims : List ℕ → Claim) (one other : Counts) → CountsOf claims one
    → CountsOf claims other → one ≡ other
CountsOf-one claims one other p q = λ i. record {
  offered = same is_offered one.offered other.offered p.numbers.offered q.numbers.offered i;
  storing = same is_storing one.storing other.storing p.numbers.storing q.numbers.storing i;
  stored = same is_stored one.stored other.stored p.numbers.stored q.numbers.stored i;
  refused = same is_refused one.refused other.refused p.numbers.refused q.numbers.refused i;
}
  where
    same : (test : Claim → Bool) (m n : ℕ) → m ≡ count_by (λ id. test (claims id)) p.ids
        → n ≡ count_by (λ id. test (claims id)) q.ids → m ≡ n
    same test m n a b =
        a ∙ count_by-same_ids (λ id. test (claims id)) p.ids q.ids p.once q.once
        (λ id. p.known id ∙ sym (q.known id)) ∙ sym b
