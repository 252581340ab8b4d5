-- The open offers of places, by the ids that the places have.
use Rattle.std.proofs.Common.{◌≡◌, ◌≢◌, ◌<◌, ◌+◌, ℕ, zero, suc, List, [], ◌∷◌, ◌++◌, Option, Bool}
use Rattle.std.proofs.Common.{None, Some, length, get_or, set, map, refl, sym, ap, arith, rules}
use Rattle.std.proofs.Common.{◌∙◌}
use Rattle.std.proofs.Common.{true, false, inl, inr, option_map, subst, ◌||◌, if◌then◌else◌}
use Rattle.std.proofs.Math.ListN.{get_or-map}
use Rattle.std.proofs.lemmas.Bool.{cases_Bool, cond_both, true≢false}
use Rattle.std.proofs.lemmas.List.{append-nil, get_or_default, length-map}
use Rattle.std.proofs.lemmas.List.Elements.{filter-append, filter_map-append}
use Rattle.std.specs.Prelude.{bytes_eq, filter, is_some, not}
use Rattle.std.specs.List.{AllPairs}
use Rattle.std.proofs.lemmas.Slice.Eq.{bytes_eq-Decides}
use Rattle.relay_model.specs.Asks.{is_open, run_out, with_offer, without_offer}
use Rattle.relay_model.specs.Claims.{has_run_out}
use Rattle.relay_model.specs.State.{OpenOffer}
use Rattle.peer_session.specs.Places.{ids_of, offer_view, open_ids, open_offers}
use Rattle.peer_session.specs.declared.chains.Opened.{Opened}
use Rattle.peer_session.proofs.PlaceLemmas.{differs, first_alone, is_among, open_somewhere}
use Rattle.peer_session.proofs.PlaceLemmas.{one_fewer, rest_once, still_once}
use Rattle.peer_session.specs.Table.{IsFirst}

-- the id of an open offer
abbrev id_in : OpenOffer → List ℕ
id_in one = one.id

-- the id that a place has
pub id_at : (places : List (Option Opened)) (j : ℕ)
    → get_or (ids_of places) j None ≡ option_map (λ (one : Opened). one.id) (get_or places j None)
id_at places j = get_or-map (option_map (λ (one : Opened). one.id)) places j None

-- there are as many
pub as_many_ids : (places : List (Option Opened)) → length (ids_of places) ≡ length places
as_many_ids places = length-map places (option_map (λ (one : Opened). one.id))

-- the ids once an offer has ended
pub ids_set : (places : List (Option Opened)) (j : ℕ)
    → ids_of (set places j None) ≡ set (ids_of places) j None
ids_set [] j = refl
ids_set (place ∷ places) zero = refl
ids_set (place ∷ places) (suc j) =
    ap (λ rest. option_map (λ (one : Opened). one.id) place ∷ rest) (ids_set places j)

-- the ids closed up
pub ids_kept : (places : List (Option Opened))
    → ids_of (filter is_some places) ≡ filter is_some (ids_of places)
ids_kept [] = refl
ids_kept (None ∷ places) = ids_kept places
ids_kept (Some one ∷ places) = ap (λ rest. Some one.id ∷ rest) (ids_kept places)

-- the ids with one more
pub ids_more : (places : List (Option Opened)) (one : Opened)
    → ids_of (places ++ Some one ∷ []) ≡ ids_of places ++ Some one.id ∷ []
ids_more [] one = refl
ids_more (place ∷ places) one =
    ap (λ rest. option_map (λ (one : Opened). one.id) place ∷ rest) (ids_more places one)

-- the ids of the open offers
pub ids_open : (places : List (Option Opened))
    → map id_in (open_offers places) ≡ open_ids (ids_of places)
ids_open [] = refl
ids_open (None ∷ places) = ids_open places
ids_open (Some one ∷ places) = ap (λ rest. one.id ∷ rest) (ids_open places)

-- there are as many
pub as_many_open : (places : List (Option Opened))
    → length (open_offers places) ≡ length (open_ids (ids_of places))
as_many_open places =
    sym (length-map (open_offers places) id_in) ∙ ap length (ids_open places)

-- an id is open where it is among them
pub open_alike : (places : List (Option Opened)) (id : List ℕ)
    → is_open (open_offers places) id ≡ is_among (open_ids (ids_of places)) id
open_alike [] id = refl
open_alike (None ∷ places) id = open_alike places id
open_alike (Some one ∷ places) id = ap (λ rest. bytes_eq id one.id || rest) (open_alike places id)

-- no two are of one id
pub once_open : (places : List (Option Opened))
    → AllPairs (λ id other. id ≢ other) (open_ids (ids_of places))
    → AllPairs (λ one other. one.id ≢ other.id) (open_offers places)
once_open places once i j d below within same =
    subst (AllPairs (λ id other. id ≢ other)) (sym (ids_open places)) once i j d.id below
    (omega (arith, length-map (open_offers places) id_in))
    (get_or-map id_in (open_offers places) i d ∙ same
    ∙ sym (get_or-map id_in (open_offers places) j d))

-- without an id that isn't open they are the same
pub kept_open : (offers : List OpenOffer) (id : List ℕ) → is_open offers id ≡ false
    → without_offer offers id ≡ offers
kept_open [] id none = refl
kept_open (other ∷ offers) id none = elim (cases_Bool (bytes_eq id other.id)) [
  | inl t ↦ absurd (true≢false (rw t at none))
  | inr f ↦ rw f (ap (λ rest. other ∷ rest) (kept_open offers id (rw f at none)))
]

-- a place whose offer ends leaves the others
pub ended_one : (places : List (Option Opened)) (j : ℕ) (id : List ℕ)
    → get_or (ids_of places) j None ≡ Some id
    → AllPairs (λ x y. x ≢ y) (open_ids (ids_of places))
    → without_offer (open_offers places) id ≡ open_offers (set places j None)
ended_one [] j id e once = absurd (search rules)
ended_one (None ∷ places) zero id e once = absurd (search rules)
ended_one (None ∷ places) (suc j) id e once = ended_one places j id e once
ended_one (Some other ∷ places) zero id e once =
    let same : id ≡ other.id = cc in
    let alone : is_open (open_offers places) id ≡ false =
    rw same (open_alike places other.id ∙ first_alone (open_ids (ids_of places)) other.id once) in
    rw ((bytes_eq-Decides id other.id).1 same) (kept_open (open_offers places) id alone)
ended_one (Some other ∷ places) (suc j) id e once =
    let rest : is_among (open_ids (ids_of places)) other.id ≡ false =
    first_alone (open_ids (ids_of places)) other.id once in
    let ne : id ≢ other.id = λ same. true≢false (sym (open_somewhere (ids_of places) j other.id
    (rw (← same) e)) ∙ rest) in
    rw (differs id other.id ne) (ap (λ offers. offer_view other ∷ offers)
    (ended_one places j id e (rest_once (open_ids (ids_of places)) other.id once)))

-- the first place that has an offer has the oldest
pub oldest_of : (places : List (Option Opened)) (first : ℕ) (one : Opened)
    → ((j : ℕ) → j < first → get_or (ids_of places) j None ≡ None)
    → get_or places first None ≡ Some one
    → open_offers places ≡ offer_view one ∷ open_offers (set places first None)
oldest_of [] first one before e = absurd (search rules)
oldest_of (None ∷ places) zero one before e = absurd (search rules)
oldest_of (None ∷ places) (suc first) one before e =
    oldest_of places first one (λ j lt. before (suc j) (omega arith)) e
oldest_of (Some other ∷ places) zero one before e =
    let same : other ≡ one = cc in ap (λ x. offer_view x ∷ open_offers places) same
oldest_of (Some other ∷ places) (suc first) one before e =
    let none : Some other.id ≡ None = before zero (omega arith) in absurd (cc)

-- where no place has one there are none
pub none_open : (places : List (Option Opened))
    → ((j : ℕ) → j < length places → get_or (ids_of places) j None ≡ None)
    → open_offers places ≡ []
none_open [] none = refl
none_open (None ∷ places) none = none_open places (λ j lt. none (suc j) (omega arith))
none_open (Some other ∷ places) none =
    let is : Some other.id ≡ None = none zero (omega arith) in absurd (cc)

-- a place more, with an offer
pub more_open : (places : List (Option Opened)) (one : Opened)
    → open_offers (places ++ Some one ∷ []) ≡ open_offers places ++ offer_view one ∷ []
more_open places one = filter_map-append (option_map offer_view) places (Some one ∷ [])

-- closed up, the places have the same offers
pub still_open : (places : List (Option Opened))
    → open_offers (filter is_some places) ≡ open_offers places
still_open [] = refl
still_open (None ∷ places) = still_open places
still_open (Some one ∷ places) = ap (λ offers. offer_view one ∷ offers) (still_open places)

-- the offer of a place that has an id
pub offer_of : (places : List (Option Opened)) (j : ℕ) (id : List ℕ)
    → get_or (ids_of places) j None ≡ Some id
    → (one : Opened) × (get_or places j None ≡ Some one) × (one.id ≡ id)
offer_of places j id e = by (get_or places j None) refl
  where
    by : (place : Option Opened) → get_or places j None ≡ place
        → (one : Opened) × (get_or places j None ≡ Some one) × (one.id ≡ id)
    by None is =
        let none : None ≡ Some id = sym (id_at places j
        ∙ ap (option_map (λ (one : Opened). one.id)) is) ∙ e in absurd (cc)
    by (Some one) is =
        let same : Some one.id ≡ Some id = sym (id_at places j
        ∙ ap (option_map (λ (one : Opened). one.id)) is) ∙ e in (one, is, cc)

-- a place that isn't empty has an id
pub has_offer : (places : List (Option Opened)) (i : ℕ) (place : Option Opened)
    → i < length places → place ≡ get_or places i place → is_some place ≡ true
    → (id : List ℕ) × (get_or (ids_of places) i None ≡ Some id)
has_offer places i None lt is some = absurd (search rules)
has_offer places i (Some one) lt is some = (
  one.id,
  id_at places i
      ∙ ap (option_map (λ (one : Opened). one.id))
      (get_or_default places i None (Some one) lt ∙ sym is),
)

-- one that is empty has none
pub has_none : (places : List (Option Opened)) (i : ℕ) (place : Option Opened)
    → i < length places → place ≡ get_or places i place → is_some place ≡ false
    → get_or (ids_of places) i None ≡ None
has_none places i (Some one) lt is none = absurd (search rules)
has_none places i None lt is none =
    id_at places i
    ∙ ap (option_map (λ (one : Opened). one.id)) (get_or_default places i None None lt ∙ sym is)

-- the place that is first, where any has an offer
pub first_offer : (places : List (Option Opened)) (first : ℕ) (place : Option Opened)
    → IsFirst (ids_of places) first → first < length places → place ≡ get_or places first place
    → (one : Opened) × ((place ≡ Some one) × (get_or places first None ≡ Some one))
first_offer places first place is lt at =
    let had = is.first_open (omega (arith, as_many_ids places)) in
    let one = offer_of places first had.0 had.1 in
    (one.0, ((at ∙ get_or_default places first place None lt) ∙ one.1, one.1))

-- one offer fewer is open
pub fewer_open : (places : List (Option Opened)) (j : ℕ) (id : List ℕ)
    → get_or (ids_of places) j None ≡ Some id
    → length (open_offers (set places j None)) + 1 ≡ length (open_offers places)
fewer_open places j id e =
    let ended : length (open_ids (ids_of (set places j None)))
    ≡ length (open_ids (set (ids_of places) j None)) =
    ap (λ ids. length (open_ids ids)) (ids_set places j) in
    omega (
      arith,
      as_many_open places,
      as_many_open (set places j None),
      ended,
      one_fewer (ids_of places) j id e,
    )

-- none is there twice, once one has ended
pub once_ended : (places : List (Option Opened)) (j : ℕ) (id : List ℕ)
    → get_or (ids_of places) j None ≡ Some id
    → AllPairs (λ x y. x ≢ y) (open_ids (ids_of places))
    → AllPairs (λ x y. x ≢ y) (open_ids (ids_of (set places j None)))
once_ended places j id e once = rw (ids_set places j) (still_once (ids_of places) j id e once)

-- the oldest offer stands first, where it has run out
pub ended_first : (lasting : Option ℕ) (now : ℕ) (offers : List OpenOffer)
    (ended : OpenOffer × List OpenOffer) → run_out lasting now offers ≡ Some ended
    → offers ≡ ended.0 ∷ ended.1
ended_first lasting now [] ended e = absurd (cc)
ended_first lasting now (offer ∷ behind) ended e = by (has_run_out lasting offer.since now) e
  where
    by : (test : Bool) → (if test then Some (offer, behind) else None) ≡ Some ended
        → offer ∷ behind ≡ ended.0 ∷ ended.1
    by true is =
        let same : (offer, behind) ≡ ended = cc in
        ap (λ (one : OpenOffer × List OpenOffer). one.0 ∷ one.1) same
    by false is = absurd (cc)

-- an offer that is opened and ends again leaves the others
pub opened_ended : (offers : List OpenOffer) (id : List ℕ) (since : ℕ)
    → without_offer (with_offer offers id since) id ≡ without_offer offers id
opened_ended offers id since =
    let new : OpenOffer = record { id = id; since = since } in
    cond_both (is_open offers id) offers (offers ++ new ∷ [])
    (λ after. without_offer after id ≡ without_offer offers id) (λ e. refl)
    (λ e. filter-append (λ (offer : OpenOffer). not (bytes_eq id offer.id)) offers (new ∷ [])
    ∙ rw ((bytes_eq-Decides id id).1 refl) (append-nil (without_offer offers id)))
