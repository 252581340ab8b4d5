-- How much room what is left takes.
use Rattle.std.proofs.Common.{◌≡◌, ◌∙◌, ◌≤◌, ◌<◌, ◌+◌, ap, refl, arith, List, ℕ, [], ◌∷◌, ◌++◌}
use Rattle.std.proofs.Common.{Option, Some, String, Global, length, map, cond, Bool}
use Rattle.std.proofs.lemmas.List.{length-append, length-map}
use Rattle.std.proofs.lemmas.List.Concat.{flat_map-append, flat_map-cons}
use Rattle.std.proofs.lemmas.List.Sums.{sum_by-cons}
use Rattle.std.proofs.lemmas.Map.Iter.{rest_so_far, rest_more}
use Rattle.std.specs.HashMap.{values}
use Rattle.std.specs.List.{flat_map}
use Rattle.std.specs.Iterator.{Yields}
use Rattle.std.specs.Map.{values_of}
use Rattle.std.specs.Map.Iter.{TakesFirst}
use Rattle.id_history.specs.Views.{id_view}
use Rattle.id_history.specs.declared.kept.KeptId as kept
use Rattle.relay_model.specs.Claims.{Claim}
use Rattle.id_history.specs.Counts.{is_stored, is_refused, Numbers}
use Rattle.id_history.specs.LastingIn.{kept_of, lasting_count}
use Rattle.id_history.specs.declared.claims.Shard.{Shard}
use Rattle.id_history.specs.declared.counts.Counts.{Counts}
use Rattle.id_history.specs.declared.claims.Entry.{Entry}
use Rattle.id_history.specs.declared.claims.Entry.TheVariants as entry
use Rattle.id_history.proofs.CountLemmas.{number_of, claim_by}

abbrev Pairs : Type 0
Pairs = List (String Global × Entry)

-- one entry more of those that pass a test
number_of-cons : (test : Claim → Bool) (e : Entry) (es : List Entry)
    → number_of (e ∷ es) test ≡ cond (test (claim_by e)) 1 0 + number_of es test
number_of-cons test e es = sum_by-cons (λ one. cond (test (claim_by one)) 1 0) e es

-- one id more that is left
length-left : (pair : String Global × Entry) (pairs : Pairs)
    → length (flat_map kept_of (pair ∷ pairs))
    ≡ length (kept_of pair) + length (flat_map kept_of pairs)
length-left pair pairs =
    ap length (flat_map-cons kept_of pair pairs)
    ∙ length-append (kept_of pair) (flat_map kept_of pairs)

-- an entry is left where its claim is stored or refused
one_left : (pair : String Global × Entry)
    → cond (is_stored (claim_by pair.1)) 1 0 + cond (is_refused (claim_by pair.1)) 1 0
    ≡ length (kept_of pair)
one_left (q, entry.Offered session since) = refl
one_left (q, entry.Storing session) = refl
one_left (q, entry.Stored token moment) = refl
one_left (q, entry.Refused moment) = refl

-- as many are left as are stored or were refused
pub lasting-number : (pairs : Pairs)
    → number_of (values_of pairs) is_stored + number_of (values_of pairs) is_refused
    ≡ length (flat_map kept_of pairs)
lasting-number [] = refl
lasting-number (pair ∷ pairs) = omega (
  arith,
  number_of-cons is_stored pair.1 (values_of pairs),
  number_of-cons is_refused pair.1 (values_of pairs),
  one_left pair,
  length-left pair pairs,
  lasting-number pairs,
)

-- what a turn of a walk finds stands between what it had and what is to come
pub split_at : {A X : Type 0} (shows : A → X) (xs : List A) (s t u : List X) (r : Option A) (x : A)
    → Yields (TakesFirst shows) s xs t → r ≡ Some x → TakesFirst shows t r u
    → s ≡ map shows xs ++ shows x ∷ u
split_at shows xs s t u r x y is step =
    rest_so_far shows xs s t y ∙ ap (λ l. map shows xs ++ l) (rest_more shows t u r x is step)

-- where there was room for all that is left, there is some for the next one
pub room_left : (first now : List kept.KeptId) (had len room : ℕ) (pairs others all : Pairs)
    (pair : String Global × Entry) → all ≡ pairs ++ pair ∷ others
    → map id_view now ≡ map id_view first ++ flat_map kept_of pairs
    → length first ≡ had → length now ≡ len
    → had + length (flat_map kept_of all) ≤ room → length (kept_of pair) ≡ 1 → len < room
room_left first now had len room pairs others all pair split is begun long fits one = omega (
  arith,
  begun,
  long,
  fits,
  one,
  ap length is ∙ length-append (map id_view first) (flat_map kept_of pairs),
  length-map now id_view,
  length-map first id_view,
  ap (λ all. length (flat_map kept_of all)) split
      ∙ ap length (flat_map-append kept_of pairs (pair ∷ others))
      ∙ length-append (flat_map kept_of pairs) (flat_map kept_of (pair ∷ others)),
  length-left pair others,
)

-- the counts of all entries
pub lasting-counts : (shard : Shard) (counts : Counts)
    → Numbers counts (number_of (values shard.entries))
    → counts.stored + counts.refused ≡ lasting_count shard
lasting-counts shard counts are =
    (λ i. are.stored i + are.refused i) ∙ lasting-number shard.entries.entries
