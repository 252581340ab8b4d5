-- What is left of sixteen shards is what is left of each.
use Rattle.std.proofs.Common.{◌≡◌, ◌≢◌, ◌∙◌, ◌≤◌, ◌⊎◌, ap, sym, refl, subst, Bool, true}
use Rattle.std.proofs.Common.{◌||◌}
use Rattle.std.proofs.Common.{List, ℕ, [], ◌∷◌, ◌++◌, inl, inr, length, arith, Option, None}
use Rattle.std.proofs.Common.{Some, cond}
use Rattle.std.proofs.lemmas.Bool.{cases_Bool, le-ltb, lt-ltb, false≢true, or_right}
use Rattle.std.proofs.lemmas.List.{map-append}
use Rattle.std.proofs.lemmas.List.Folds.{list_any-append}
use Rattle.std.proofs.lemmas.Slice.Eq.{bytes_eq-Decides}
use Rattle.std.specs.List.{AllByRecursion, IsDistinct}
use Rattle.std.specs.Set.{is_member}
use Rattle.std.specs.Str.{bytes_eq}
use Rattle.id_history.specs.History.{KeptId}
use Rattle.news_terms.specs.Token.{Token}
use Rattle.relay_model.specs.Claims.{Claim, Unknown}
use Rattle.relay_model.specs.Run.{shard_of}
use Rattle.id_history.specs.declared.shards.Shards.{Shards}
use Rattle.id_history.specs.Lasting.{lasting, claim_since, claim_of_kept, ids_of, HasLasting}
use Rattle.id_history.specs.Lasting.{GathersLasting}
use Rattle.id_history.proofs.JoinLemmas.{Joins, IsDistinct-join, below}
use Rattle.id_history.proofs.ShardsLemmas.{in_range}

-- what is remembered isn't unknown
pub known : (token : Option Token) (moment : ℕ) → claim_since token moment ≢ Unknown
known None moment e = cc
known (Some token) moment e = cc

-- of an id that is among them something is left
pub left_of_member : (claims : List ℕ → Claim) (id : List ℕ) (entries : List KeptId)
    → AllByRecursion (λ (one : KeptId). claim_of_kept one ≡ lasting (claims one.id)) entries
    → is_member bytes_eq (ids_of entries) id ≡ true → lasting (claims id) ≢ Unknown
left_of_member claims id [] each among none = absurd (false≢true among)
left_of_member claims id (one ∷ others) each among none =
    elim (cases_Bool (bytes_eq id one.id)) [
      | inl same ↦ known one.token one.moment (each.0
          ∙ ap (λ i. lasting (claims i)) (sym ((bytes_eq-Decides id one.id).0 same)) ∙ none)
      | inr apart ↦ left_of_member claims id others each.1
          (sym (ap (λ b. b || is_member bytes_eq (ids_of others) id) apart) ∙ among) none
    ]

-- claims that agree on the ids of a list agree with it alike
each_same : (a c : List ℕ → Claim) (entries : List KeptId)
    → AllByRecursion (λ (one : KeptId). claim_of_kept one ≡ lasting (a one.id)) entries
    → AllByRecursion (λ (one : KeptId). lasting (a one.id) ≡ lasting (c one.id)) entries
    → AllByRecursion (λ (one : KeptId). claim_of_kept one ≡ lasting (c one.id)) entries
each_same a c [] each same = tt
each_same a c (one ∷ others) each same =
    (each.0 ∙ same.0, each_same a c others each.1 same.1)

-- a claim of which something is left is of one part alone
same_as : (a b c : Claim) → ((a ≡ Unknown) × (c ≡ b)) ⊎ ((b ≡ Unknown) × (c ≡ a))
    → lasting a ≢ Unknown → lasting a ≡ lasting c
same_as a b c (inl w) left = absurd (left (ap lasting w.0))
same_as a b c (inr w) left = ap lasting (sym w.1)

same_as_second : (a b c : Claim) → ((a ≡ Unknown) × (c ≡ b)) ⊎ ((b ≡ Unknown) × (c ≡ a))
    → lasting b ≢ Unknown → lasting b ≡ lasting c
same_as_second a b c (inl w) left = ap lasting (sym w.1)
same_as_second a b c (inr w) left = absurd (left (ap lasting w.0))

-- what the claims of the listed ids are known by is known of each
agree : (a c : List ℕ → Claim)
    → ((id : List ℕ) → lasting (a id) ≢ Unknown → lasting (a id) ≡ lasting (c id))
    → (entries : List KeptId)
    → AllByRecursion (λ (one : KeptId). claim_of_kept one ≡ lasting (a one.id)) entries
    → AllByRecursion (λ (one : KeptId). lasting (a one.id) ≡ lasting (c one.id)) entries
agree a c same [] each = tt
agree a c same (one ∷ others) each = (
  same one.id (λ none. known one.token one.moment (each.0 ∙ none)),
  agree a c same others each.1,
)

-- what holds of each of two lists holds of each of both
pub all_append : (P : KeptId → Type 0) (xs ys : List KeptId) → AllByRecursion P xs
    → AllByRecursion P ys → AllByRecursion P (xs ++ ys)
all_append P [] ys first second = second
all_append P (x ∷ xs) ys first second = (first.0, all_append P xs ys first.1 second)

-- an id of which something is left in one part isn't in the other
apart_from : (a b c : Claim) → ((a ≡ Unknown) × (c ≡ b)) ⊎ ((b ≡ Unknown) × (c ≡ a))
    → lasting a ≢ Unknown → lasting b ≡ Unknown
apart_from a b c (inl w) left = absurd (left (ap lasting w.0))
apart_from a b c (inr w) left = ap lasting w.0

pub left_holds : (a b : Bool) → a ≡ true → (a || b) ≡ true
left_holds a b holds = ap (λ x. x || b) holds

-- what is left of two parts, together
pub HasLasting-join : (a b c : List ℕ → Claim) (xs ys : List KeptId) → Joins a b c
    → HasLasting xs a → HasLasting ys b → HasLasting (xs ++ ys) c
HasLasting-join a b c xs ys joins p q =
    let split : ids_of (xs ++ ys) ≡ ids_of xs ++ ids_of ys =
    map-append (λ (one : KeptId). one.id) xs ys in
    record {
      once = subst (IsDistinct bytes_eq) (sym split)
          (IsDistinct-join (ids_of xs) (ids_of ys) p.once q.once (λ id among.
          elim (cases_Bool (is_member bytes_eq (ids_of ys) id)) [
            | inl both ↦ absurd (left_of_member b id ys q.each both
                (apart_from (a id) (b id) (c id) (joins.either id)
                (left_of_member a id xs p.each among)))
            | inr one ↦ one
          ]));
      each = all_append (λ (one : KeptId). claim_of_kept one ≡ lasting (c one.id)) xs ys
          (each_same a c xs p.each (agree a c
          (λ id. same_as (a id) (b id) (c id) (joins.either id)) xs p.each))
          (each_same b c ys q.each (agree b c
          (λ id. same_as_second (a id) (b id) (c id) (joins.either id)) ys q.each));
      whole = λ id left. ap (λ ids. is_member bytes_eq ids id) split
          ∙ list_any-append (bytes_eq id) (ids_of xs) (ids_of ys)
          ∙ elim (joins.either id) [
            | inl w ↦ or_right (is_member bytes_eq (ids_of xs) id) _
                (q.whole id (λ e. left (ap lasting w.1 ∙ e)))
            | inr w ↦ left_holds _ (is_member bytes_eq (ids_of ys) id)
                (p.whole id (λ e. left (ap lasting w.1 ∙ e)))
          ];
    }

-- of no shards nothing is left
pub HasLasting-none : (claims : List ℕ → Claim) → HasLasting [] (below 0 claims)
unfolding below IsDistinct
HasLasting-none claims = record {
  once = tt;
  each = tt;
  whole = λ id left. absurd (left (ap (λ b. lasting (cond b (claims id) Unknown))
      (le-ltb (shard_of id) 0 (omega arith))));
}

-- of all shards all is left
pub HasLasting-all : (shards : Shards) (claims : List ℕ → Claim) (entries : List KeptId) (n : ℕ)
    → length shards.shards.items ≤ n → HasLasting entries (below n claims)
    → HasLasting entries claims
unfolding below
HasLasting-all shards claims entries n all are =
    subst (HasLasting entries) (λ i id. ap (λ b. cond b (claims id) Unknown)
    (lt-ltb (shard_of id) n (omega (arith, all, in_range shards (shard_of id) id refl))) i) are

-- what was gathered of the next part is what is left of both
pub HasLasting-gathers : (a b c : List ℕ → Claim) (before after : List KeptId) → Joins a b c
    → HasLasting before a → GathersLasting before after b → HasLasting after c
HasLasting-gathers a b c before after joins had gathers =
    subst (λ xs. HasLasting xs c) (sym gathers.is)
    (HasLasting-join a b c before gathers.more joins had gathers.are)
