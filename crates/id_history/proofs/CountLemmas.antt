-- The counts of a shard's entries are those of its claims.
use Rattle.std.proofs.Common.{◌≡◌, ◌≤◌, ◌+◌, ◌∙◌, ◌||◌, ◌++◌, ◌∷◌, [], ap, sym, refl, arith}
use Rattle.std.proofs.Common.{Bool, true, false, cond, List, ℕ, Option, None, Some, is_some}
use Rattle.std.proofs.Common.{String, Global, length, map, if◌then◌else◌}
use Rattle.std.proofs.lemmas.List.Sums.{count_by-le-length, sum_by-cons, sum_by_push}
use Rattle.std.proofs.lemmas.Bool.{cond-true, cond-false}
use Rattle.std.proofs.lemmas.List.{length-append}
use Rattle.std.specs.HashMap.{IsUnique, values}
use Rattle.std.specs.List.{AllByRecursion, IsDistinct, count_by}
use Rattle.std.specs.Map.{lookup, keys_of, values_of}
use Rattle.std.specs.Set.{is_member}
use Rattle.std.specs.Str.{bytes_eq}
use Rattle.std.specs.String.{string_bytes, string_eq, string_eq_equiv}
use Rattle.relay_model.specs.Claims.{Accepted, Claim, Stage, is_storing}
use Rattle.relay_model.specs.Claims as claim
use Rattle.id_history.specs.declared.claims.Entry.{Entry}
use Rattle.id_history.specs.declared.claims.Entry.TheVariants as entry
use Rattle.id_history.specs.declared.claims.Shard.{Shard}
use Rattle.id_history.specs.declared.counts.Counts.{Counts}
use Rattle.id_history.specs.Counts.{is_known, is_offered, is_stored, is_refused}
use Rattle.id_history.specs.Counts.{Numbers, CountsOf, AtMost}
use Rattle.id_history.specs.Mark.{mark_of, claim_of, entry_mark, no_article}
use Rattle.id_history.specs.Shard.{mark_at, Keeps}

-- a claim that the entry stands for
abbrev pub claim_by : Entry → Claim
claim_by one = claim_of (entry_mark (Some one))

-- how many entries pass a test
abbrev pub number_of : List Entry → (Claim → Bool) → ℕ
number_of entries test = count_by (λ one. test (claim_by one)) entries

-- one entry more
pub Numbers-push : (before one after : Counts) (entries : List Entry) (e : Entry)
    → after.offered ≡ before.offered + one.offered → after.storing ≡ before.storing + one.storing
    → after.stored ≡ before.stored + one.stored → after.refused ≡ before.refused + one.refused
    → Numbers before (number_of entries)
    → Numbers one (λ test. if test (claim_by e) then 1 else 0)
    → Numbers after (number_of (entries ++ e ∷ []))
Numbers-push before one after entries e o s t r so_far more = record {
  offered = o ∙ next is_offered _ _ so_far.offered more.offered;
  storing = s ∙ next is_storing _ _ so_far.storing more.storing;
  stored = t ∙ next is_stored _ _ so_far.stored more.stored;
  refused = r ∙ next is_refused _ _ so_far.refused more.refused;
}
  where
    next : (test : Claim → Bool) (n k : ℕ) → n ≡ number_of entries test
        → k ≡ cond (test (claim_by e)) 1 0 → n + k ≡ number_of (entries ++ e ∷ []) test
    next test n k a b = (λ i. a i + b i)
        ∙ sym (sum_by_push (λ x. cond (test (claim_by x)) 1 0) entries e)

-- no count is more than there are entries
AtMost-from_Numbers : (counts : Counts) (entries : List Entry) (most : ℕ)
    → Numbers counts (number_of entries) → length entries ≤ most → AtMost most counts
AtMost-from_Numbers counts entries most are few = record {
  offered = within is_offered _ are.offered;
  storing = within is_storing _ are.storing;
  stored = within is_stored _ are.stored;
  refused = within is_refused _ are.refused;
}
  where
    within : (test : Claim → Bool) (n : ℕ) → n ≡ number_of entries test → n ≤ most
    within test n a =
        omega (arith, a, few, count_by-le-length (λ x. test (claim_by x)) entries)

-- so it is of the entries so far, of which there are no more than of all
pub AtMost-so_far : (counts : Counts) (entries rest all : List Entry) (most : ℕ)
    → all ≡ entries ++ rest → length all ≤ most → Numbers counts (number_of entries)
    → AtMost most counts
AtMost-so_far counts entries rest all most split le are =
    AtMost-from_Numbers counts entries most are
    (omega (arith, le, ap length split, length-append entries rest))

-- nor is that of one message-id more than one
pub AtMost-one : (one : Counts) (c : Claim) (most : ℕ) → 1 ≤ most
    → Numbers one (λ test. if test c then 1 else 0) → AtMost most one
AtMost-one one c most some are = record {
  offered = within (is_offered c) _ are.offered;
  storing = within (is_storing c) _ are.storing;
  stored = within (is_stored c) _ are.stored;
  refused = within (is_refused c) _ are.refused;
}
  where
    within : (b : Bool) (n : ℕ) → n ≡ cond b 1 0 → n ≤ most
    within true n a = omega (arith, a, some)
    within false n a = omega (arith, a)

-- a test that sees neither article nor stage
abbrev IsBlind : (Claim → Bool) → Type 0
IsBlind test = (c : Claim) → test (claim_of (mark_of c)) ≡ test c

-- it is one that doesn't see those of an article that is being stored
blind_by : (test : Claim → Bool)
    → ((session : ℕ) (article : Accepted) (stage : Stage)
    → test (claim.Storing session no_article claim.Waiting)
    ≡ test (claim.Storing session article stage))
    → IsBlind test
blind_by test storing claim.Unknown = refl
blind_by test storing (claim.Offered session since) = refl
blind_by test storing (claim.Storing session article stage) = storing session article stage
blind_by test storing (claim.Stored token moment) = refl
blind_by test storing (claim.Refused moment) = refl

abbrev Pairs : Type 0
Pairs = List (String Global × Entry)

-- the message-ids of the entries
abbrev ids_of : Pairs → List (List ℕ)
ids_of pairs = map (λ k. string_bytes k) (keys_of pairs)

-- keys that differ have octets that differ
ids_of-apart : (k : String Global) (pairs : Pairs)
    → AllByRecursion (λ y. string_eq k y ≡ false) (keys_of pairs)
    → AllByRecursion (λ y. bytes_eq (string_bytes k) y ≡ false) (ids_of pairs)
ids_of-apart k [] all = tt
ids_of-apart k (p ∷ pairs) all = (all.0, ids_of-apart k pairs all.1)

ids_of-distinct : (pairs : Pairs) → IsDistinct string_eq (keys_of pairs)
    → IsDistinct bytes_eq (ids_of pairs)
unfolding IsDistinct
ids_of-distinct [] once = tt
ids_of-distinct (p ∷ pairs) once =
    (ids_of-apart p.0 pairs once.0, ids_of-distinct pairs once.1)

-- an id is among them where the look-up finds an entry
ids_of-found : (id : List ℕ) (pairs : Pairs)
    → is_member bytes_eq (ids_of pairs) id
    ≡ is_some (lookup (λ k. bytes_eq id (string_bytes k)) pairs)
ids_of-found id [] = refl
ids_of-found id (p ∷ pairs) = by (bytes_eq id (string_bytes p.0)) _ _ (ids_of-found id pairs)
  where
    by : (b others : Bool) (found : Option Entry) → others ≡ is_some found
        → (b || others) ≡ is_some (cond b (Some p.1) found)
    by true others found same = refl
    by false others found same = same

-- of an id with an entry something is known
known_entry : (found : Option Entry) → is_some found ≡ is_known (claim_of (entry_mark found))
known_entry None = refl
known_entry (Some (entry.Offered session since)) = refl
known_entry (Some (entry.Storing session)) = refl
known_entry (Some (entry.Stored token moment)) = refl
known_entry (Some (entry.Refused moment)) = refl

-- a look-up that finds each of the entries still does where another key comes first
found_past : (first : String Global × Entry) (all pairs : Pairs)
    → AllByRecursion (λ y. string_eq first.0 y ≡ false) (keys_of pairs)
    → AllByRecursion (λ p. lookup (string_eq p.0) all ≡ Some p.1) pairs
    → AllByRecursion (λ p. lookup (string_eq p.0) (first ∷ all) ≡ Some p.1) pairs
found_past first all [] apart found = tt
found_past first all (p ∷ pairs) apart found = (
  cond-false (string_eq p.0 first.0) (Some first.1) (lookup (string_eq p.0) all)
      (string_eq_equiv.symm p.0 first.0 ∙ apart.0) ∙ found.0,
  found_past first all pairs apart.1 found.1,
)

-- where the keys differ, each entry is what a look-up of its key finds
pub each_found : (pairs : Pairs) → IsDistinct string_eq (keys_of pairs)
    → AllByRecursion (λ p. lookup (string_eq p.0) pairs ≡ Some p.1) pairs
unfolding IsDistinct
each_found [] once = tt
each_found (p ∷ pairs) once = (
  cond-true (string_eq p.0 p.0) (Some p.1) (lookup (string_eq p.0) pairs)
      (string_eq_equiv.refl p.0),
  found_past p pairs pairs once.0 (each_found pairs once.1),
)

-- where the claims agree with the entries, as many pass
counts-alike : (test : Claim → Bool) (claims : List ℕ → Claim) (pairs : Pairs)
    → AllByRecursion (λ p. test (claim_by p.1) ≡ test (claims (string_bytes p.0))) pairs
    → number_of (values_of pairs) test ≡ count_by (λ id. test (claims id)) (ids_of pairs)
counts-alike test claims [] agree = refl
counts-alike test claims (p ∷ pairs) agree =
    sum_by-cons (λ x. cond (test (claim_by x)) 1 0) p.1 (values_of pairs)
    ∙ (λ i. cond (agree.0 i) 1 0 + counts-alike test claims pairs agree.1 i)
    ∙ sym (sum_by-cons (λ id. cond (test (claims id)) 1 0) (string_bytes p.0) (ids_of pairs))

-- a blind test says of each entry what it says of the claim that the shard keeps
agree_each : (shard : Shard) (claims : List ℕ → Claim) (test : Claim → Bool) → IsBlind test
    → Keeps shard claims → (pairs : Pairs)
    → AllByRecursion (λ p. lookup (string_eq p.0) shard.entries.entries ≡ Some p.1) pairs
    → AllByRecursion (λ p. test (claim_by p.1) ≡ test (claims (string_bytes p.0))) pairs
unfolding mark_at
agree_each shard claims test blind keeps [] found = tt
agree_each shard claims test blind keeps (p ∷ pairs) found = (
  ap (λ o. test (claim_of (entry_mark o))) (sym found.0)
      ∙ ap (λ m. test (claim_of m)) (keeps.agrees (string_bytes p.0))
      ∙ blind (claims (string_bytes p.0)),
  agree_each shard claims test blind keeps pairs found.1,
)

-- the counts of a shard's entries are those of the claims that it keeps
pub CountsOf-from_entries : (shard : Shard) (counts : Counts) → IsUnique string_eq shard.entries
    → Numbers counts (number_of (values shard.entries)) → (claims : List ℕ → Claim)
    → Keeps shard claims → CountsOf claims counts
unfolding mark_at
CountsOf-from_entries shard counts unique are claims keeps = record {
  ids = ids_of shard.entries.entries;
  once = ids_of-distinct shard.entries.entries unique;
  known = λ id. ids_of-found id shard.entries.entries
      ∙ known_entry (lookup (λ k. bytes_eq id (string_bytes k)) shard.entries.entries)
      ∙ ap (λ m. is_known (claim_of m)) (keeps.agrees id)
      ∙ blind_by is_known (λ s a t. refl) (claims id);
  numbers = record {
    offered = are.offered ∙ same is_offered (blind_by is_offered (λ s a t. refl));
    storing = are.storing ∙ same is_storing (blind_by is_storing (λ s a t. refl));
    stored = are.stored ∙ same is_stored (blind_by is_stored (λ s a t. refl));
    refused = are.refused ∙ same is_refused (blind_by is_refused (λ s a t. refl));
  };
}
  where
    same : (test : Claim → Bool) → IsBlind test
        → number_of (values shard.entries) test
        ≡ count_by (λ id. test (claims id)) (ids_of shard.entries.entries)
    same test blind = counts-alike test claims shard.entries.entries
        (agree_each shard claims test blind keeps shard.entries.entries
        (each_found shard.entries.entries unique))
