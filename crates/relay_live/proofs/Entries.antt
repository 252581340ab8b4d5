-- What is left of the claims of shards that each have ids of their own alone, shard after shard.
use Rattle.std.proofs.Common.{◌≡◌, ◌∙◌, ◌+◌, ◌<◌, ◌≤◌, ◌⊎◌, ◌==◌, ap, sym, refl, subst}
use Rattle.std.proofs.Common.{Bool, true, false, List, ℕ, [], inl, inr, length, arith}
use Rattle.std.proofs.Common.{map}
use Rattle.std.proofs.Common.{cond, slice_index_or}
use Rattle.std.proofs.Math.Dec.{ltb}
use Rattle.std.proofs.lemmas.Bool.{le-ltb, lt-ltb, ltb-true, ltb-false}
use Rattle.std.proofs.lemmas.Bool.{eqb-false, eqb-true}
use Rattle.std.proofs.lemmas.List.Elements.{All-from_recursion, recursion_from_All}
use Rattle.std.proofs.lemmas.List.Sorted.{IsPermutation-map, All-permutation, Contains-permutation}
use Rattle.std.proofs.lemmas.Map.Made.{is_member-Decides}
use Rattle.std.proofs.lemmas.Slice.Eq.{bytes_eq-Decides}
use Rattle.std.specs.List.{IsDistinct}
use Rattle.std.specs.List.Sorted.{IsPermutation}
use Rattle.std.specs.Str.{bytes_eq}
use Rattle.id_history.proofs.JoinLemmas.{Joins, below}
use Rattle.id_history.proofs.LastingJoins.{HasLasting-join}
use Rattle.id_history.specs.History.{KeptId, Rises}
use Rattle.id_history.specs.Views.{id_view}
use Rattle.id_history.specs.declared.kept.KeptId as kept
use Rattle.id_history.specs.Lasting.{AreLasting, GathersLasting, HasLasting, claim_of_kept}
use Rattle.id_history.specs.Lasting.{ids_of, lasting}
use Rattle.id_history.specs.Shard.{Keeps}
use Rattle.id_history.specs.Shards.{EachKeeps, claims_at}
use Rattle.id_history.specs.declared.claims.Shard.{Shard}
use Rattle.id_history.proofs.LastingOrder.{ids-permutation}
use Rattle.relay_live.proofs.Rest.{other_claim, own_claim, shard_within}
use Rattle.relay_model.specs.Claims.{Claim, Unknown}
use Rattle.relay_model.specs.Run.{shard_of}

-- SHARD AFTER SHARD

within_below : (n : ℕ) (claims : List ℕ → Claim) (id : List ℕ) → shard_of id < n
    → below n claims id ≡ claims id
unfolding below
within_below n claims id less = ap (λ b. cond b (claims id) Unknown) (lt-ltb (shard_of id) n less)

past_below : (n : ℕ) (claims : List ℕ → Claim) (id : List ℕ) → n ≤ shard_of id
    → below n claims id ≡ Unknown
unfolding below
past_below n claims id past = ap (λ b. cond b (claims id) Unknown) (le-ltb (shard_of id) n past)

-- the next shard has the ids of its own alone
joins_next : (n : ℕ) (claims : List ℕ → Claim)
    → Joins (below n claims) (claims_at n claims) (below (n + 1) claims)
joins_next n claims =
    record { either = λ id. by id (shard_of id == n) refl (ltb (shard_of id) n) refl }
  where
    by : (id : List ℕ) (same : Bool) → (shard_of id == n) ≡ same → (less : Bool)
        → ltb (shard_of id) n ≡ less
        → ((below n claims id ≡ Unknown) × (below (n + 1) claims id ≡ claims_at n claims id))
        ⊎ ((claims_at n claims id ≡ Unknown) × (below (n + 1) claims id ≡ below n claims id))
    by id true e less l =
        let own = eqb-true (shard_of id) n e in
        inl (
          past_below n claims id (omega (arith, own)),
          within_below (n + 1) claims id (omega (arith, own)) ∙ sym (own_claim claims n id own),
        )
    by id false e true l =
        let under = ltb-true (shard_of id) n l in
        inr (
          other_claim claims n id (eqb-false (shard_of id) n e),
          within_below (n + 1) claims id (omega (arith, under))
              ∙ sym (within_below n claims id under),
        )
    by id false e false l =
        let apart = eqb-false (shard_of id) n e in
        let over = ltb-false (shard_of id) n l in
        inr (
          other_claim claims n id apart,
          past_below (n + 1) claims id (omega (arith, over, apart))
              ∙ sym (past_below n claims id over),
        )

-- what is left of the ids of the first shards
abbrev pub AreLeftTo : List Shard → (count : ℕ) → List kept.KeptId → Type 0
AreLeftTo shards count entries =
    (claims : List ℕ → Claim) → EachKeeps shards claims
    → HasLasting (map id_view entries) (below count claims)

-- of no shards nothing is left
pub none_left : (shards : List Shard) (entries : List kept.KeptId) → entries ≡ []
    → AreLeftTo shards 0 entries
unfolding IsDistinct
none_left shards entries none claims keeps =
    subst (λ xs. HasLasting (map id_view xs) (below 0 claims)) (sym none) (record {
      once = tt;
      each = tt;
      whole = λ id left. absurd (left (ap lasting (past_below 0 claims id (omega arith))));
    })

-- what was gathered of one shard more
pub left_more : (shards : List Shard) (k : ℕ) (shard : Shard) (before after : List kept.KeptId)
    → k < length shards → shard ≡ slice_index_or shards k shard
    → ((claims : List ℕ → Claim) → Keeps shard claims
    → GathersLasting (map id_view before) (map id_view after) claims)
    → AreLeftTo shards k before → AreLeftTo shards (k + 1) after
left_more shards k shard before after within read gathers had claims keeps =
    let more = gathers (claims_at k claims)
    (subst (λ one. Keeps one (claims_at k claims)) (sym read) (keeps.each k shard within)) in
    subst (λ xs. HasLasting xs (below (k + 1) claims)) (sym more.is)
    (HasLasting-join (below k claims) (claims_at k claims) (below (k + 1) claims)
    (map id_view before) more.more (joins_next k claims) (had claims keeps) more.are)

-- of all shards all is left, once it is in order
pub all_left : (shards : List Shard) (n : ℕ) (lent gathered sorted shown : List kept.KeptId)
    → n ≡ 16 → lent ≡ gathered → IsPermutation lent sorted
    → (IsDistinct bytes_eq (ids_of (map id_view lent)) → Rises (map id_view sorted))
    → shown ≡ sorted → AreLeftTo shards n gathered → (claims : List ℕ → Claim)
    → EachKeeps shards claims → AreLasting (map id_view shown) claims
all_left shards n lent gathered sorted shown all same moved rises is left claims keeps =
    let whole : below n claims ≡ claims = λ i id. within_below n claims id
    (omega (arith, all, shard_within id)) i in
    let are : HasLasting (map id_view lent) claims =
    subst (λ xs. HasLasting (map id_view xs) claims) (sym same)
    (subst (HasLasting (map id_view gathered)) whole (left claims keeps)) in
    let P : KeptId → Type 0 = λ one. claim_of_kept one ≡ lasting (claims one.id) in
    let ids = ids_of (map id_view lent) in
    let ordered = ids_of (map id_view sorted) in
    subst (λ (xs : List kept.KeptId). AreLasting (map id_view xs) claims) (sym is) (record {
      rises = rises are.once;
      each = recursion_from_All P (map id_view sorted)
          (All-permutation P (map id_view lent) (map id_view sorted)
          (IsPermutation-map id_view lent sorted moved)
          (All-from_recursion P (map id_view lent) are.each));
      whole = λ id something. (is_member-Decides bytes_eq-Decides ordered id).1
          (Contains-permutation ids ordered id (ids-permutation lent sorted moved)
          ((is_member-Decides bytes_eq-Decides ids id).0 (are.whole id something)));
    })
