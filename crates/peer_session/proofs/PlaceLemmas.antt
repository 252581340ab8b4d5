-- The ids of places.
use Rattle.std.proofs.Common.{◌≡◌, ◌≢◌, ◌<◌, ◌+◌, ℕ, zero, suc, List, [], ◌∷◌, ◌++◌, Option}
use Rattle.std.proofs.Common.{None, Some, length, get_or, set, refl, sym, ap, arith, rules, ◌∙◌}
use Rattle.std.proofs.Common.{true, false, inl, inr}
use Rattle.std.specs.Prelude.{Bool, bytes_eq, filter, not, is_some, MatchOption}
use Rattle.std.specs.List.{AllPairs, list_any}
use Rattle.std.proofs.lemmas.Bool.{cases_Bool, true≢false}
use Rattle.std.proofs.lemmas.List.Elements.{filter_map-append}
use Rattle.std.proofs.lemmas.List.{get_or_default}
use Rattle.std.proofs.lemmas.List.Folds.{list_any_at}
use Rattle.std.proofs.lemmas.List.Kept.{AllPairs-filter}
use Rattle.std.proofs.lemmas.List.Quantifiers.{all_pairs_push}
use Rattle.std.proofs.lemmas.Slice.Eq.{bytes_eq-Decides}
use Rattle.peer_session.specs.Places.{open_ids}

-- the id is among these
abbrev pub is_among : List (List ℕ) → List ℕ → Bool
is_among ids id = list_any (bytes_eq id) ids

-- these without the id
abbrev pub without_id : List (List ℕ) → List ℕ → List (List ℕ)
without_id ids id = filter (λ other. not (bytes_eq id other)) ids

-- texts that differ are told apart
pub differs : (id other : List ℕ) → id ≢ other → bytes_eq id other ≡ false
differs id other ne = elim (cases_Bool (bytes_eq id other)) [
  | inl t ↦ absurd (ne ((bytes_eq-Decides id other).0 t))
  | inr f ↦ f
]

-- an id that no place has isn't open
pub closed_nowhere : (places : List (Option (List ℕ))) (id : List ℕ)
    → ((j : ℕ) → get_or places j None ≢ Some id) → is_among (open_ids places) id ≡ false
closed_nowhere [] id none = refl
closed_nowhere (None ∷ places) id none = closed_nowhere places id (λ j. none (suc j))
closed_nowhere (Some other ∷ places) id none =
    rw (differs id other (λ same. none zero (ap (λ x. Some x) (sym same))))
    (closed_nowhere places id (λ j. none (suc j)))

-- an id that a place has is open
pub open_somewhere : (places : List (Option (List ℕ))) (j : ℕ) (id : List ℕ)
    → get_or places j None ≡ Some id → is_among (open_ids places) id ≡ true
open_somewhere [] j id e = absurd (search rules)
open_somewhere (None ∷ places) zero id e = absurd (search rules)
open_somewhere (None ∷ places) (suc j) id e = open_somewhere places j id e
open_somewhere (Some other ∷ places) zero id e =
    let same : id ≡ other = cc in rw ((bytes_eq-Decides id other).1 same) refl
open_somewhere (Some other ∷ places) (suc j) id e =
    let rest : is_among (open_ids places) id ≡ true = open_somewhere places j id e in
    elim (cases_Bool (bytes_eq id other)) [
      | inl t ↦ rw t refl
      | inr f ↦ rw f rest
    ]

-- without an id that isn't among them the ids are the same
kept_all : (ids : List (List ℕ)) (id : List ℕ) → is_among ids id ≡ false
    → without_id ids id ≡ ids
kept_all [] id none = refl
kept_all (other ∷ ids) id none = elim (cases_Bool (bytes_eq id other)) [
  | inl t ↦ absurd (true≢false (rw t at none))
  | inr f ↦ rw f (ap (λ rest. other ∷ rest) (kept_all ids id (rw f at none)))
]

-- an id that is none of these isn't open
none_same : (ids : List (List ℕ)) (id : List ℕ)
    → ((k : ℕ) (d : List ℕ) → k < length ids → id ≢ get_or ids k d) → is_among ids id ≡ false
none_same [] id none = refl
none_same (other ∷ ids) id none =
    let ne : id ≢ other = none zero [] (omega arith) in
    rw (differs id other ne) (none_same ids id (λ k d lt. none (suc k) d (omega arith)))

-- of ids of which none is there twice, the first isn't among the others
pub first_alone : (ids : List (List ℕ)) (id : List ℕ) → AllPairs (λ x y. x ≢ y) (id ∷ ids)
    → is_among ids id ≡ false
first_alone ids id once =
    none_same ids id (λ k d lt. once zero (suc k) d (omega arith) (omega arith))

-- where none of them is there twice, none of the others is
pub rest_once : (ids : List (List ℕ)) (id : List ℕ) → AllPairs (λ x y. x ≢ y) (id ∷ ids)
    → AllPairs (λ x y. x ≢ y) ids
rest_once ids id once = λ i j d below within. once (suc i) (suc j) d (omega arith) (omega arith)

-- a place whose id ends leaves the ids without it
pub closed_one : (places : List (Option (List ℕ))) (j : ℕ) (id : List ℕ)
    → get_or places j None ≡ Some id → AllPairs (λ x y. x ≢ y) (open_ids places)
    → without_id (open_ids places) id ≡ open_ids (set places j None)
closed_one [] j id e once = absurd (search rules)
closed_one (None ∷ places) zero id e once = absurd (search rules)
closed_one (None ∷ places) (suc j) id e once = closed_one places j id e once
closed_one (Some other ∷ places) zero id e once =
    let same : id ≡ other = cc in
    let alone : is_among (open_ids places) id ≡ false =
    rw same (first_alone (open_ids places) other once) in
    rw ((bytes_eq-Decides id other).1 same) (kept_all (open_ids places) id alone)
closed_one (Some other ∷ places) (suc j) id e once =
    let rest : is_among (open_ids places) other ≡ false =
    first_alone (open_ids places) other once in
    let ne : id ≢ other = λ same. true≢false (sym (open_somewhere places j other
    (rw (← same) e)) ∙ rest) in
    rw (differs id other ne) (ap (λ ids. other ∷ ids)
    (closed_one places j id e (rest_once (open_ids places) other once)))

-- and one fewer
pub one_fewer : (places : List (Option (List ℕ))) (j : ℕ) (id : List ℕ)
    → get_or places j None ≡ Some id
    → length (open_ids (set places j None)) + 1 ≡ length (open_ids places)
one_fewer [] j id e = absurd (search rules)
one_fewer (None ∷ places) zero id e = absurd (search rules)
one_fewer (None ∷ places) (suc j) id e = one_fewer places j id e
one_fewer (Some other ∷ places) zero id e = omega arith
one_fewer (Some other ∷ places) (suc j) id e = omega (arith, one_fewer places j id e)

-- none of them is there twice
pub still_once : (places : List (Option (List ℕ))) (j : ℕ) (id : List ℕ)
    → get_or places j None ≡ Some id → AllPairs (λ x y. x ≢ y) (open_ids places)
    → AllPairs (λ x y. x ≢ y) (open_ids (set places j None))
still_once places j id e once =
    rw (← closed_one places j id e once) (AllPairs-filter (λ x y. x ≢ y)
    (λ other. not (bytes_eq id other)) (open_ids places) once)

-- a place more, with an id
pub one_more : (places : List (Option (List ℕ))) (id : List ℕ)
    → open_ids (places ++ Some id ∷ []) ≡ open_ids places ++ id ∷ []
one_more places id = filter_map-append (λ place. place) places (Some id ∷ [])

-- none is there twice once an id is added that wasn't there
pub once_more : (ids : List (List ℕ)) (id : List ℕ) → is_among ids id ≡ false
    → AllPairs (λ x y. x ≢ y) ids → AllPairs (λ x y. x ≢ y) (ids ++ id ∷ [])
once_more ids id new once =
    all_pairs_push (λ x y. x ≢ y) ids id once (λ k d lt same.
    true≢false (sym (list_any_at (bytes_eq id) ids k d lt
    ((bytes_eq-Decides id (get_or ids k d)).1 (sym same))) ∙ new))

-- closed up, the places have the same ids
pub closed_up : (places : List (Option (List ℕ)))
    → open_ids (filter is_some places) ≡ open_ids places
closed_up [] = refl
closed_up (None ∷ places) = closed_up places
closed_up (Some id ∷ places) = ap (λ ids. id ∷ ids) (closed_up places)

-- and as many places as ids
pub as_many : (places : List (Option (List ℕ)))
    → length (filter is_some places) ≡ length (open_ids places)
as_many [] = refl
as_many (None ∷ places) = as_many places
as_many (Some id ∷ places) = omega (arith, as_many places)

-- a place that isn't empty has an id
pub has_id : (places : List (Option (List ℕ))) (i : ℕ) (place : Option (List ℕ))
    → i < length places → place ≡ get_or places i place → is_some place ≡ true
    → (id : List ℕ) × (get_or places i None ≡ Some id)
has_id places i None lt is some = absurd (search rules)
has_id places i (Some id) lt is some = (id, get_or_default places i None (Some id) lt ∙ sym is)

-- what was found is open, and nothing was where it isn't
pub found_open : {X : Type 0} (found : Option X) (places : List (Option (List ℕ))) (id : List ℕ)
    (place : X → ℕ) → MatchOption found ((j : ℕ) → get_or places j None ≢ Some id)
    (λ spot. get_or places (place spot) None ≡ Some id)
    → is_some found ≡ is_among (open_ids places) id
found_open None places id place none = sym (closed_nowhere places id none)
found_open (Some spot) places id place at = sym (open_somewhere places (place spot) id at)

-- a place without an id has none still, once one has ended
pub none_still : (places : List (Option (List ℕ))) (i j : ℕ) → get_or places j None ≡ None
    → get_or (set places i None) j None ≡ None
none_still [] i j e = e
none_still (place ∷ places) zero zero e = refl
none_still (place ∷ places) zero (suc j) e = e
none_still (place ∷ places) (suc i) zero e = e
none_still (place ∷ places) (suc i) (suc j) e = none_still places i j e
