-- The counts of the shards added are those of all claims.
use Rattle.std.proofs.Common.{◌≡◌, ◌≢◌, ◌≤◌, ◌<◌, ◌+◌, ◌∙◌, ◌||◌, ◌++◌, ◌∷◌, ◌⊎◌, [], ap, sym}
use Rattle.std.proofs.Common.{arith, refl, subst, inl, inr, Bool, true, false, cond, List, ℕ}
use Rattle.std.proofs.Common.{length}
use Rattle.std.proofs.Math.ListN.{get_or}
use Rattle.std.proofs.Math.Dec.{ltb}
use Rattle.std.proofs.lemmas.Bool.{cases_Bool, ltb-true, ltb-false, lt-ltb, le-ltb, true≢false}
use Rattle.std.proofs.lemmas.Bool.{or_right}
use Rattle.std.proofs.lemmas.Bool.Decides.{eqb_tells}
use Rattle.std.proofs.lemmas.List.Folds.{list_any-append}
use Rattle.std.proofs.lemmas.List.Sums.{sum_by-append, sum_by-cons}
use Rattle.std.specs.Cmp.Lexicographic.{nat_list_eq_equiv}
use Rattle.std.specs.List.{AllByRecursion, IsDistinct, count_by}
use Rattle.std.specs.Set.{is_member}
use Rattle.std.specs.Str.{bytes_eq}
use Rattle.relay_model.specs.Claims.{Claim, Unknown, is_storing}
use Rattle.relay_model.specs.Run.{shard_of}
use Rattle.id_history.specs.declared.claims.Shard.{Shard}
use Rattle.id_history.specs.declared.counts.Counts.{Counts}
use Rattle.id_history.specs.declared.shards.Shards.{Shards}
use Rattle.id_history.specs.Counts.{is_known, is_offered, is_stored, is_refused}
use Rattle.id_history.specs.Counts.{Numbers, CountsOf, AtMost}
use Rattle.id_history.specs.Mark.{claim_of}
use Rattle.id_history.specs.Shard.{mark_at}
use Rattle.id_history.proofs.ShardsLemmas.{claims_in, in_range}

-- each count is the sum of the two
pub record Sums (x y z : Counts) : Type 0 where
  pub offered : z.offered ≡ x.offered + y.offered
  pub storing : z.storing ≡ x.storing + y.storing
  pub stored : z.stored ≡ x.stored + y.stored
  pub refused : z.refused ≡ x.refused + y.refused

pub AtMost-weaker : (few most : ℕ) (x : Counts) → few ≤ most → AtMost few x → AtMost most x
AtMost-weaker few most x le are = record {
  offered = omega (arith, le, are.offered);
  storing = omega (arith, le, are.storing);
  stored = omega (arith, le, are.stored);
  refused = omega (arith, le, are.refused);
}

pub AtMost-plus : (m n most : ℕ) (x y z : Counts) → m + n ≤ most → Sums x y z → AtMost m x
    → AtMost n y → AtMost most z
AtMost-plus m n most x y z le sums a b = record {
  offered = omega (arith, le, sums.offered, a.offered, b.offered);
  storing = omega (arith, le, sums.storing, a.storing, b.storing);
  stored = omega (arith, le, sums.stored, a.stored, b.stored);
  refused = omega (arith, le, sums.refused, a.refused, b.refused);
}

-- a disjunction that fails fails on both sides
pub both_fail : (a b : Bool) → (a || b) ≡ false → (a ≡ false) × (b ≡ false)
both_fail true b fails = absurd (true≢false fails)
both_fail false b fails = (refl, fails)

or_nothing : (a : Bool) → (a || false) ≡ a
or_nothing true = refl
or_nothing false = refl

-- an id that isn't among them differs from each
pub apart_each : (x : List ℕ) (ys : List (List ℕ)) → is_member bytes_eq ys x ≡ false
    → AllByRecursion (λ y. bytes_eq x y ≡ false) ys
apart_each x [] none = tt
apart_each x (y ∷ ys) none =
    let both = both_fail (bytes_eq x y) (is_member bytes_eq ys x) none in
    (both.0, apart_each x ys both.1)

pub apart_append : (x : List ℕ) (xs ys : List (List ℕ))
    → AllByRecursion (λ y. bytes_eq x y ≡ false) xs
    → is_member bytes_eq ys x ≡ false → AllByRecursion (λ y. bytes_eq x y ≡ false) (xs ++ ys)
apart_append x [] ys all none = apart_each x ys none
apart_append x (first ∷ xs) ys all none = (all.0, apart_append x xs ys all.1 none)

-- the first of a list is in it
pub first_member : (x : List ℕ) (xs : List (List ℕ)) → is_member bytes_eq (x ∷ xs) x ≡ true
first_member x xs = ap (λ b. b || is_member bytes_eq xs x) (nat_list_eq_equiv.refl x)

-- two lists of ids that share none, each without doubles, have none together
pub IsDistinct-join : (xs ys : List (List ℕ)) → IsDistinct bytes_eq xs → IsDistinct bytes_eq ys
    → ((id : List ℕ) → is_member bytes_eq xs id ≡ true → is_member bytes_eq ys id ≡ false)
    → IsDistinct bytes_eq (xs ++ ys)
unfolding IsDistinct
IsDistinct-join [] ys one two share = two
IsDistinct-join (x ∷ xs) ys one two share = (
  apart_append x xs ys one.0 (share x (first_member x xs)),
  IsDistinct-join xs ys one.1 two (λ id among. share id (or_right (bytes_eq id x) _ among)),
)

-- claims that agree on each id of a list count alike on it
count_same : (test : Claim → Bool) (a c : List ℕ → Claim) (xs : List (List ℕ))
    → ((id : List ℕ) → is_member bytes_eq xs id ≡ true → c id ≡ a id)
    → count_by (λ id. test (a id)) xs ≡ count_by (λ id. test (c id)) xs
count_same test a c [] same = refl
count_same test a c (x ∷ xs) same =
    let first = sym (same x (first_member x xs)) in
    let others = count_same test a c xs
    (λ id among. same id (or_right (bytes_eq id x) _ among)) in
    sum_by-cons (λ id. cond (test (a id)) 1 0) x xs
    ∙ (λ i. cond (test (first i)) 1 0 + others i)
    ∙ sym (sum_by-cons (λ id. cond (test (c id)) 1 0) x xs)

-- each id is known in one of the two at most, and its claim is that of the other
pub record Joins (a b c : List ℕ → Claim) : Type 0 where
  pub either : (id : List ℕ)
      → ((a id ≡ Unknown) × (c id ≡ b id)) ⊎ ((b id ≡ Unknown) × (c id ≡ a id))

-- where the first part knows an id, the second doesn't
in_first : (a b c : Claim) → ((a ≡ Unknown) × (c ≡ b)) ⊎ ((b ≡ Unknown) × (c ≡ a))
    → is_known a ≡ true → (b ≡ Unknown) × (c ≡ a)
in_first a b c (inl w) known = absurd (true≢false (sym known ∙ ap is_known w.0))
in_first a b c (inr w) known = w

in_second : (a b c : Claim) → ((a ≡ Unknown) × (c ≡ b)) ⊎ ((b ≡ Unknown) × (c ≡ a))
    → is_known b ≡ true → c ≡ b
in_second a b c (inl w) known = w.1
in_second a b c (inr w) known = absurd (true≢false (sym known ∙ ap is_known w.0))

in_either : (a b c : Claim) → ((a ≡ Unknown) × (c ≡ b)) ⊎ ((b ≡ Unknown) × (c ≡ a))
    → (is_known a || is_known b) ≡ is_known c
in_either a b c (inl w) = ap (λ u. is_known u || is_known b) w.0 ∙ ap is_known (sym w.1)
in_either a b c (inr w) =
    ap (λ u. is_known a || is_known u) w.0 ∙ or_nothing (is_known a) ∙ ap is_known (sym w.1)

-- the counts of two parts, added, are those of the whole
pub CountsOf-join : (a b c : List ℕ → Claim) (x y z : Counts) → Joins a b c → Sums x y z
    → CountsOf a x → CountsOf b y → CountsOf c z
CountsOf-join a b c x y z joins sums p q = record {
  ids = p.ids ++ q.ids;
  once = IsDistinct-join p.ids q.ids p.once q.once
      (λ id among. q.known id ∙ ap is_known (from_first id among).0);
  known = λ id. list_any-append (bytes_eq id) p.ids q.ids ∙ (λ i. p.known id i || q.known id i)
      ∙ in_either (a id) (b id) (c id) (joins.either id);
  numbers = record {
    offered = sums.offered ∙ added is_offered _ _ p.numbers.offered q.numbers.offered;
    storing = sums.storing ∙ added is_storing _ _ p.numbers.storing q.numbers.storing;
    stored = sums.stored ∙ added is_stored _ _ p.numbers.stored q.numbers.stored;
    refused = sums.refused ∙ added is_refused _ _ p.numbers.refused q.numbers.refused;
  };
}
  where
    from_first : (id : List ℕ) → is_member bytes_eq p.ids id ≡ true
        → (b id ≡ Unknown) × (c id ≡ a id)
    from_first id among =
        in_first (a id) (b id) (c id) (joins.either id) (sym (p.known id) ∙ among)

    from_second : (id : List ℕ) → is_member bytes_eq q.ids id ≡ true → c id ≡ b id
    from_second id among =
        in_second (a id) (b id) (c id) (joins.either id) (sym (q.known id) ∙ among)

    added : (test : Claim → Bool) (m n : ℕ) → m ≡ count_by (λ id. test (a id)) p.ids
        → n ≡ count_by (λ id. test (b id)) q.ids
        → m + n ≡ count_by (λ id. test (c id)) (p.ids ++ q.ids)
    added test m n u v = (λ i. u i + v i)
        ∙ (λ i. count_same test a c p.ids (λ id among. (from_first id among).1) i
        + count_same test b c q.ids from_second i)
        ∙ sym (sum_by-append (λ id. cond (test (c id)) 1 0) p.ids q.ids)

-- the claims of the ids of the first n shards
unfoldable pub below : ℕ → (List ℕ → Claim) → List ℕ → Claim
below n claims id = cond (ltb (shard_of id) n) (claims id) Unknown

-- of no shards there is nothing to count
pub CountsOf-none : (claims : List ℕ → Claim) (counts : Counts) → Numbers counts (λ test. 0)
    → CountsOf (below 0 claims) counts
unfolding below IsDistinct
CountsOf-none claims counts none = record {
  ids = [];
  once = tt;
  known = λ id. ap (λ b. is_known (cond b (claims id) Unknown))
      (sym (le-ltb (shard_of id) 0 (omega arith)));
  numbers = none;
}

-- apart from n, a number is below n and below n + 1 alike
ltb_next : (s n : ℕ) → s ≢ n → ltb s (n + 1) ≡ ltb s n
ltb_next s n apart = elim (cases_Bool (ltb s n)) [
  | inl under ↦ lt-ltb s (n + 1) (omega (arith, ltb-true s n under)) ∙ sym under
  | inr over ↦ le-ltb s (n + 1) (omega (arith, ltb-false s n over, apart)) ∙ sym over
]

-- the next shard has the ids of its own alone
pub Joins-next : (shards : Shards) (one : Shard) (n : ℕ) (claims : List ℕ → Claim)
    → one ≡ get_or shards.shards.items n one → n < length shards.shards.items
    → Joins (below n claims) (claims_in one n claims) (below (n + 1) claims)
unfolding below claims_in
Joins-next shards one n claims at in_list = record {
  either = λ id. elim (eqb_tells (shard_of id) n) [
    | inl same ↦ inl (
      ap (λ b. cond b (claims id) Unknown) (le-ltb (shard_of id) n (omega (arith, same.1))),
      ap (λ b. cond b (claims id) Unknown) (lt-ltb (shard_of id) (n + 1) (omega (arith, same.1)))
          ∙ ap (λ b. cond b (claims id) (claim_of (mark_at one id))) (sym same.0),
    )
    | inr other ↦ inr (
      ap (λ b. cond b (claims id) (claim_of (mark_at one id))) other.0
          ∙ ap (λ s. claim_of (mark_at s id)) at
          ∙ ap claim_of (shards.own.unknown n id one in_list other.1),
      ap (λ b. cond b (claims id) Unknown) (ltb_next (shard_of id) n other.1),
    )
  ];
}

-- all shards have all ids
pub below_all : (shards : Shards) (claims : List ℕ → Claim) (counts : Counts) (n : ℕ)
    → length shards.shards.items ≤ n → CountsOf (below n claims) counts → CountsOf claims counts
unfolding below
below_all shards claims counts n all are =
    subst (λ f. CountsOf f counts) (λ i id. ap (λ b. cond b (claims id) Unknown)
    (lt-ltb (shard_of id) n (omega (arith, all, in_range shards (shard_of id) id refl))) i) are
