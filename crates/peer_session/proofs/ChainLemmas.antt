-- Chains as places come.
use Rattle.std.proofs.Common.{◌≡◌, ◌≢◌, ◌<◌, ◌+◌, ℕ, zero, suc, List, [], ◌∷◌, ◌++◌, Option}
use Rattle.std.proofs.Common.{None, Some, length, get_or, set, replicate, refl, sym, ◌∙◌, inl, inr}
use Rattle.std.proofs.Common.{arith, rules, length-append, length-set}
use Rattle.std.proofs.lemmas.Bool.{cases_lt}
use Rattle.std.proofs.lemmas.List.{get_or-set_other, get_or_append_left, get_or_past, get_or_push}
use Rattle.std.proofs.Math.Seq.{get_or-append_seam}
use Rattle.std.proofs.lemmas.Grind.{get_or-set_at}
use Rattle.peer_session.specs.Chains.{IsLinked}

-- what a list has after a push or after a change at one place
ruleset pushed_or_set = (
  length-append,
  length-set,
  get_or_append_left,
  get_or_push,
  get_or_past,
  get_or-set_at,
  get_or-set_other,
)

-- of zeros each is zero, and past them
pub zero_of_zeros : (n b : ℕ) → get_or {A = ℕ} (replicate n 0) b 0 ≡ 0
zero_of_zeros zero b = search rules
zero_of_zeros (suc n) zero = refl
zero_of_zeros (suc n) (suc b) = zero_of_zeros n b

-- no places have chains without a link
pub linked_none : (hash : List ℕ → ℕ) (latest : List ℕ) → ((b : ℕ) → get_or latest b 0 ≡ 0)
    → IsLinked hash [] latest [] []
linked_none hash latest none = record {
  bucket_each = refl;
  older_each = refl;
  latest_within = λ b. omega (arith, none b);
  older_below = λ i. search rules;
  latest_same = λ b n e. absurd (omega (arith, none b, e));
  older_same = λ i n e. absurd (search rules);
  own = λ j id e. absurd (search rules);
  none_later = λ j id e. absurd (search rules);
  none_between = λ i j id e below within. absurd (search rules);
}

-- from the place that came last, or from one before it, the link leads past no id of the bucket
between_more : (hash : List ℕ → ℕ) (places : List (Option (List ℕ))) (latest buckets older : List ℕ)
    (place : Option (List ℕ)) (bucket : ℕ) → IsLinked hash places latest buckets older
    → (i j : ℕ) (id : List ℕ) → get_or (places ++ place ∷ []) j None ≡ Some id → j < i
    → i < length places + 1 → get_or (buckets ++ bucket ∷ []) i 0 ≡ hash id
    → j < get_or (older ++ get_or latest bucket 0 ∷ []) i 0
between_more hash places latest buckets older place bucket linked i j id e below within same =
    let at_j : get_or places j None ≡ Some id =
    sym (get_or_append_left places (place ∷ []) None j (omega arith)) ∙ e in
    elim (cases_lt i (length places)) [
      | inl lt ↦
          let in_buckets : i < length buckets = omega (arith, linked.bucket_each) in
          let in_older : i < length older = omega (arith, linked.older_each) in
          let kept : get_or buckets i 0 ≡ hash id =
          sym (get_or_append_left buckets (bucket ∷ []) 0 i in_buckets) ∙ same in
          let passed : j < get_or older i 0 = linked.none_between i j id at_j below lt kept in
          rw (get_or_append_left older (get_or latest bucket 0 ∷ []) 0 i in_older) passed
      | inr ge ↦
          let last_bucket : i ≡ length buckets = omega (arith, linked.bucket_each) in
          let last_older : i ≡ length older = omega (arith, linked.older_each) in
          let is_bucket : get_or (buckets ++ bucket ∷ []) i 0 ≡ bucket =
          rw last_bucket (get_or-append_seam buckets bucket [] 0) in
          let is_link : get_or (older ++ get_or latest bucket 0 ∷ []) i 0 ≡ get_or latest bucket 0 =
          rw last_older (get_or-append_seam older (get_or latest bucket 0) [] 0) in
          let own : bucket ≡ hash id = sym is_bucket ∙ same in
          let later : j < get_or latest (hash id) 0 = linked.none_later j id at_j in
          rw (is_link, own) later
    ]

-- one place more, to which its bucket leads
pub linked_more : (hash : List ℕ → ℕ) (places : List (Option (List ℕ)))
    (latest buckets older : List ℕ) (place : Option (List ℕ)) (bucket : ℕ) → bucket < length latest
    → ((id : List ℕ) → place ≡ Some id → hash id ≡ bucket)
    → IsLinked hash places latest buckets older
    → IsLinked hash (places ++ place ∷ []) (set latest bucket (length buckets + 1))
    (buckets ++ bucket ∷ []) (older ++ get_or latest bucket 0 ∷ [])
linked_more hash places latest buckets older place bucket within same linked = record {
  bucket_each = grind (arith, pushed_or_set);
  older_each = grind (arith, pushed_or_set);
  latest_within = λ b. grind (arith, pushed_or_set, linked.latest_within);
  older_below = λ i.
      grind (arith, pushed_or_set, linked.older_below i, linked.latest_within bucket);
  latest_same = λ b n e.
      grind (arith, pushed_or_set, linked.latest_same b n, linked.latest_within b);
  older_same = λ i n e. grind (arith, pushed_or_set);
  own = λ j id e. grind (arith, pushed_or_set);
  none_later = λ j id e. grind (arith, pushed_or_set);
  none_between = λ i j id e below up own.
      between_more hash places latest buckets older place bucket linked i j id e below
      (omega (arith, length-append places (place ∷ []))) own;
}

-- the same, where the parts are known by equations
pub linked_added : {hash : List ℕ → ℕ} {places : List (Option (List ℕ))}
    {latest buckets older buckets' older' : List ℕ} {place : Option (List ℕ)}
    {bucket link count : ℕ} → buckets' ≡ buckets ++ bucket ∷ [] → older' ≡ older ++ link ∷ []
    → link ≡ get_or latest bucket 0 → count ≡ length buckets' → bucket < length latest
    → ((id : List ℕ) → place ≡ Some id → hash id ≡ bucket)
    → IsLinked hash places latest buckets older
    → IsLinked hash (places ++ place ∷ []) (set latest bucket count) buckets' older'
linked_added {hash} {places} {latest} {buckets} {older} {buckets'} {older'} {place} {bucket} b o l n
    within same linked =
    let count : length (buckets ++ bucket ∷ []) ≡ length buckets + 1 =
    omega (arith, length-append buckets (bucket ∷ [])) in
    rw (n, o, b, l, count)
    (linked_more hash places latest buckets older place bucket within same linked)

-- chains of no places, where the parts are known by equations
pub linked_anew : {hash : List ℕ → ℕ} {latest buckets older : List ℕ} (n : ℕ)
    → latest ≡ replicate n 0 → buckets ≡ [] → older ≡ [] → IsLinked hash [] latest buckets older
linked_anew {hash} n l b o =
    rw (l, b, o) (linked_none hash (replicate n 0) (zero_of_zeros n))

-- an id that stands before the link of a place and not there stands before the next link
pub older_place : {hash : List ℕ → ℕ} {places : List (Option (List ℕ))} {id : List ℕ}
    {latest buckets older : List ℕ} → IsLinked hash places latest buckets older → (i j : ℕ)
    → i < length places → get_or places i None ≢ Some id → get_or places j None ≡ Some id
    → j < i + 1 → get_or buckets i 0 ≡ hash id → j < get_or older i 0
older_place {id = id} linked i j within other e below same =
    let ne : j ≢ i = λ at. other (rw (← at) e) in
    linked.none_between i j id e (omega arith) within same

-- an id that is there after one has ended was there before
still_there : (places : List (Option (List ℕ))) (i j : ℕ) (id : List ℕ)
    → get_or (set places i None) j None ≡ Some id → get_or places j None ≡ Some id
still_there [] i j id e = e
still_there (place ∷ places) zero zero id e = absurd (cc)
still_there (place ∷ places) zero (suc j) id e = e
still_there (place ∷ places) (suc i) zero id e = e
still_there (place ∷ places) (suc i) (suc j) id e = still_there places i j id e

-- chains lead to what is left of the ids, too
pub linked_fewer : {hash : List ℕ → ℕ} {places : List (Option (List ℕ))}
    {latest buckets older : List ℕ} (i : ℕ) → IsLinked hash places latest buckets older
    → IsLinked hash (set places i None) latest buckets older
linked_fewer {places = places} i linked = record {
  bucket_each = linked.bucket_each ∙ sym (length-set places i None);
  older_each = linked.older_each ∙ sym (length-set places i None);
  latest_within = λ b. omega (arith, linked.latest_within b, length-set places i None);
  older_below = linked.older_below;
  latest_same = linked.latest_same;
  older_same = linked.older_same;
  own = λ j id e. linked.own j id (still_there places i j id e);
  none_later = λ j id e. linked.none_later j id (still_there places i j id e);
  none_between = λ k j id e below within. linked.none_between k j id (still_there places i j id e)
      below (omega (arith, length-set places i None));
}
