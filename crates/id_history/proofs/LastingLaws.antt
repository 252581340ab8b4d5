-- What is left of claims is one list, and each list whose ids rise is left of some claims.
use Rattle.std.proofs.Common.{◌≡◌, ◌∙◌, ap, sym, refl, Bool, true, false, ◌||◌, List, ℕ}
use Rattle.std.proofs.Common.{[], ◌∷◌, Option, None, Some, inl, inr, Ordering, Less, Equal}
use Rattle.std.proofs.Common.{Greater, cond}
use Rattle.std.proofs.lemmas.Bool.{cases_Bool, false≢true}
use Rattle.std.proofs.lemmas.Cmp.{nat_list_cmp_total}
use Rattle.std.proofs.lemmas.Map.Text.{is_eq-slice_cmp}
use Rattle.std.proofs.lemmas.Slice.Eq.{bytes_eq-Decides}
use Rattle.std.specs.Cmp.Lexicographic.{slice_cmp, nat_list_eq_equiv}
use Rattle.std.specs.List.{AllByRecursion}
use Rattle.std.specs.List.Sorted.{IsStrictlySortedBy}
use Rattle.std.specs.Ordering.{nat_cmp, is_eq, ordering_reverse}
use Rattle.std.specs.Set.{is_member}
use Rattle.std.specs.Str.{bytes_eq}
use Rattle.std.specs.Cmp.{both_ways}
use Rattle.id_history.specs.History.{KeptId, Rises}
use Rattle.news_terms.specs.Token.{Token}
use Rattle.relay_model.specs.Claims.{Claim, Unknown, is_storing, after_restart}
use Rattle.relay_model.specs.Claims as claim
use Rattle.relay_model.specs.State.{put_id}
use Rattle.id_history.specs.Lasting.{lasting, claim_since, claim_of_kept, ids_of, AreLasting}
use Rattle.id_history.specs.Lasting.{put_all}
use Rattle.id_history.specs.declared.shards.Shards.{Shards}
use Rattle.id_history.specs.Shards.{KeepsAll}
use Rattle.id_history.proofs.JoinLemmas.{first_member}
use Rattle.id_history.proofs.LastingJoins.{left_of_member}

-- what a list says of the claims of its ids
abbrev Says : (List ℕ → Claim) → List KeptId → Type 0
Says claims entries =
    AllByRecursion (λ (one : KeptId). claim_of_kept one ≡ lasting (claims one.id)) entries

-- an id that is below all of a list isn't in it
not_member : (x : List ℕ) (ys : List (List ℕ))
    → AllByRecursion (λ y. slice_cmp nat_cmp x y ≡ Less) ys → is_member bytes_eq ys x ≡ false
not_member x [] all = refl
not_member x (y ∷ ys) all =
    ap (λ b. b || is_member bytes_eq ys x) (sym (is_eq-slice_cmp x y) ∙ ap is_eq all.0)
    ∙ not_member x ys all.1

below_others : (x y : List ℕ) (others : List (List ℕ)) → slice_cmp nat_cmp x y ≡ Less
    → AllByRecursion (λ z. slice_cmp nat_cmp y z ≡ Less) others
    → AllByRecursion (λ z. slice_cmp nat_cmp x z ≡ Less) others
below_others x y [] first others = tt
below_others x y (z ∷ zs) first others =
    (nat_list_cmp_total.trans x y z first others.0, below_others x y zs first others.1)

-- a claim says token and moment
same_fate : (t u : Option Token) (m n : ℕ) → claim_since t m ≡ claim_since u n
    → (t ≡ u) × (m ≡ n)
same_fate None None m n e = (refl, cc)
same_fate None (Some u) m n e = absurd cc
same_fate (Some t) None m n e = absurd cc
same_fate (Some t) (Some u) m n e = let same : t ≡ u = cc in (ap Some same, cc)

same_one : (a b : KeptId) → a.id ≡ b.id → claim_of_kept a ≡ claim_of_kept b → a ≡ b
same_one a b ids claims =
    let fate = same_fate a.token b.token a.moment b.moment claims in
    λ i. record { id = ids i; token = fate.0 i; moment = fate.1 i }

equal_is : (x y : List ℕ) → slice_cmp nat_cmp x y ≡ Equal → x ≡ y
equal_is x y e = (bytes_eq-Decides x y).0 (sym (is_eq-slice_cmp x y) ∙ ap is_eq e)

-- the ids that two lists have besides a first one are the same
tails_same : (x y : KeptId) (xs ys : List KeptId) → x.id ≡ y.id
    → AllByRecursion (λ z. slice_cmp nat_cmp x.id z ≡ Less) (ids_of xs)
    → AllByRecursion (λ z. slice_cmp nat_cmp y.id z ≡ Less) (ids_of ys)
    → ((id : List ℕ) → is_member bytes_eq (ids_of (x ∷ xs)) id
    ≡ is_member bytes_eq (ids_of (y ∷ ys)) id)
    → (id : List ℕ) → is_member bytes_eq (ids_of xs) id ≡ is_member bytes_eq (ids_of ys) id
tails_same x y xs ys same first second members id =
    elim (cases_Bool (bytes_eq id x.id)) [
      | inl here ↦
          let at : id ≡ x.id = (bytes_eq-Decides id x.id).0 here in
          ap (is_member bytes_eq (ids_of xs)) at ∙ not_member x.id (ids_of xs) first
          ∙ sym (ap (is_member bytes_eq (ids_of ys)) (at ∙ same)
          ∙ not_member y.id (ids_of ys) second)
      | inr apart ↦
          sym (ap (λ b. b || is_member bytes_eq (ids_of xs) id) apart)
          ∙ members id
          ∙ ap (λ b. b || is_member bytes_eq (ids_of ys) id) (ap (bytes_eq id) (sym same) ∙ apart)
    ]

-- by the order of their first ids, which are the same, two such lists are one
by_order : (claims : List ℕ → Claim) (x y : KeptId) (xs ys : List KeptId) → Rises (x ∷ xs)
    → Rises (y ∷ ys) → Says claims (x ∷ xs) → Says claims (y ∷ ys)
    → ((id : List ℕ) → is_member bytes_eq (ids_of (x ∷ xs)) id
    ≡ is_member bytes_eq (ids_of (y ∷ ys)) id)
    → (r : Ordering) → slice_cmp nat_cmp x.id y.id ≡ r
    → (((id : List ℕ) → is_member bytes_eq (ids_of xs) id ≡ is_member bytes_eq (ids_of ys) id)
    → xs ≡ ys) → x ∷ xs ≡ y ∷ ys
unfolding IsStrictlySortedBy
by_order claims x y xs ys up ups says all members Less is others =
    absurd (false≢true (sym (not_member x.id (y.id ∷ ids_of ys)
    (is, below_others x.id y.id (ids_of ys) is ups.0))
    ∙ sym (members x.id) ∙ first_member x.id (ids_of xs)))
by_order claims x y xs ys up ups says all members Equal is others =
    let same = equal_is x.id y.id is in
    let one = same_one x y same (says.0 ∙ ap (λ id. lasting (claims id)) same ∙ sym all.0) in
    let rest = others (tails_same x y xs ys same up.0 ups.0 members) in
    λ i. one i ∷ rest i
by_order claims x y xs ys up ups says all members Greater is others =
    let flipped : slice_cmp nat_cmp y.id x.id ≡ Less =
    nat_list_cmp_total.antisymm y.id x.id ∙ ap ordering_reverse is in
    absurd (false≢true (sym (not_member y.id (x.id ∷ ids_of xs)
    (flipped, below_others y.id x.id (ids_of xs) flipped up.0))
    ∙ members y.id ∙ first_member y.id (ids_of ys)))

-- lists that rise, have the same ids and say the same are one
same_lists : (claims : List ℕ → Claim) (xs ys : List KeptId) → Rises xs → Rises ys
    → Says claims xs → Says claims ys
    → ((id : List ℕ) → is_member bytes_eq (ids_of xs) id ≡ is_member bytes_eq (ids_of ys) id)
    → xs ≡ ys
unfolding IsStrictlySortedBy
same_lists claims [] [] up ups says all members = refl
same_lists claims [] (y ∷ ys) up ups says all members =
    absurd (false≢true (members y.id ∙ first_member y.id (ids_of ys)))
same_lists claims (x ∷ xs) [] up ups says all members =
    absurd (false≢true (sym (members x.id) ∙ first_member x.id (ids_of xs)))
same_lists claims (x ∷ xs) (y ∷ ys) up ups says all members =
    by_order claims x y xs ys up ups says all members (slice_cmp nat_cmp x.id y.id) refl
    (λ members. same_lists claims xs ys up.1 ups.1 says.1 all.1 members)

-- what is left of claims is one list
pub one_left : (claims : List ℕ → Claim) (xs ys : List KeptId) → AreLasting xs claims
    → AreLasting ys claims → xs ≡ ys
one_left claims xs ys a b =
    same_lists claims xs ys a.rises b.rises a.each b.each (λ id.
    both_ways (is_member bytes_eq (ids_of xs) id) (is_member bytes_eq (ids_of ys) id)
    (λ among. b.whole id (left_of_member claims id xs a.each among))
    (λ among. a.whole id (left_of_member claims id ys b.each among)))

-- an id that isn't put stays as it was
put_apart : (base : List ℕ → Claim) (id : List ℕ) (entries : List KeptId)
    → is_member bytes_eq (ids_of entries) id ≡ false → put_all base entries id ≡ base id
put_apart base id [] none = refl
put_apart base id (one ∷ others) none =
    let parts = both_fail (bytes_eq id one.id) (is_member bytes_eq (ids_of others) id) none in
    put_apart (put_id base one.id (claim_of_kept one)) id others parts.1
    ∙ ap (λ b. cond b (claim_of_kept one) (base id)) parts.0
  where
    both_fail : (a b : Bool) → (a || b) ≡ false → (a ≡ false) × (b ≡ false)
    both_fail true b fails = absurd (false≢true (sym fails))
    both_fail false b fails = (refl, fails)

-- what is remembered lasts
lasts : (token : Option Token) (moment : ℕ)
    → claim_since token moment ≡ lasting (claim_since token moment)
lasts None moment = refl
lasts (Some token) moment = refl

-- each of a list that rises is what was put last of its id
each_put : (base : List ℕ → Claim) (entries : List KeptId) → Rises entries
    → AllByRecursion (λ (one : KeptId). claim_of_kept one ≡ lasting (put_all base entries one.id))
    entries
unfolding IsStrictlySortedBy
each_put base [] up = tt
each_put base (one ∷ others) up =
    let next = put_id base one.id (claim_of_kept one) in
    let here : put_all next others one.id ≡ claim_of_kept one =
    put_apart next one.id others (not_member one.id (ids_of others) up.0)
    ∙ ap (λ b. cond b (claim_of_kept one) (base one.id)) (nat_list_eq_equiv.refl one.id) in (
      lasts one.token one.moment ∙ ap lasting (sym here),
      each_put next others up.1,
    )

-- a list whose ids rise is left of some claims
pub some_left : (entries : List KeptId) → Rises entries
    → AreLasting entries (put_all (λ id. Unknown) entries)
some_left entries up = record {
  rises = up;
  each = each_put (λ id. Unknown) entries up;
  whole = λ id left. elim (cases_Bool (is_member bytes_eq (ids_of entries) id)) [
    | inl among ↦ among
    | inr none ↦ absurd (left (ap lasting (put_apart (λ other. Unknown) id entries none)))
  ];
}

-- what is left of claims that last is left of them
lasting-twice : (c : Claim) → lasting (lasting c) ≡ lasting c
lasting-twice claim.Unknown = refl
lasting-twice (claim.Offered session since) = refl
lasting-twice (claim.Storing session article stage) = refl
lasting-twice (claim.Stored token moment) = refl
lasting-twice (claim.Refused moment) = refl

each_twice : (claims : List ℕ → Claim) (entries : List KeptId) → Says claims entries
    → Says (λ id. lasting (claims id)) entries
each_twice claims [] says = tt
each_twice claims (one ∷ others) says =
    (says.0 ∙ sym (lasting-twice (claims one.id)), each_twice claims others says.1)

left_twice : (claims : List ℕ → Claim) (entries : List KeptId) → AreLasting entries claims
    → AreLasting entries (λ id. lasting (claims id))
left_twice claims entries are = record {
  rises = are.rises;
  each = each_twice claims entries are.each;
  whole = λ id left. are.whole id (λ none. left (lasting-twice (claims id) ∙ none));
}

-- what a resume makes reads back as what it was given
pub reads-back : (shards : Shards) (entries again : List KeptId) → Rises entries
    → ((claims : List ℕ → Claim) → AreLasting entries claims
    → KeepsAll shards (λ id. lasting (claims id)))
    → ((claims : List ℕ → Claim) → KeepsAll shards claims → AreLasting again claims)
    → again ≡ entries
reads-back shards entries again up resumed read =
    let claims = put_all (λ id. Unknown) entries in
    let are = some_left entries up in
    one_left (λ id. lasting (claims id)) again entries
    (read (λ id. lasting (claims id)) (resumed claims are)) (left_twice claims entries are)

-- where no id is being stored, what lasts is what a Restart leaves
pub lasting-restart : (c : Claim) → is_storing c ≡ false → lasting c ≡ after_restart c
lasting-restart claim.Unknown idle = refl
lasting-restart (claim.Offered session since) idle = refl
lasting-restart (claim.Storing session article stage) idle = absurd (false≢true (sym idle))
lasting-restart (claim.Stored token moment) idle = refl
lasting-restart (claim.Refused moment) idle = refl
