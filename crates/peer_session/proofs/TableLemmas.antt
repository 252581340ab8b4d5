-- The first place of a table.
use Rattle.std.proofs.Common.{◌≡◌, ◌≢◌, ◌<◌, ℕ, List, [], ◌∷◌, ◌++◌, Option, None, Some}
use Rattle.std.proofs.Common.{length, get_or, arith, refl, rules, ◌∙◌, inl, inr}
use Rattle.std.proofs.Common.{length-append, Bor}
use Rattle.std.specs.Prelude.{filter, is_some, MatchOption, option_copied}
use Rattle.std.specs.List.{AllPairs}
use Rattle.std.proofs.lemmas.Bool.{cases_lt}
use Rattle.std.proofs.lemmas.List.{get_or_append_left, get_or_default}
use Rattle.std.proofs.lemmas.List.Elements.{filter_passes}
use Rattle.std.proofs.Math.Seq.{get_or-append_seam}
use Rattle.peer_session.proofs.PlaceLemmas.{has_id}
use Rattle.peer_session.specs.Places.{open_ids}
use Rattle.peer_session.specs.Table.{IsFirst}

-- the first place stays the first once a place with an id is added
pub first_more : (places : List (Option (List ℕ))) (first : ℕ) (id : List ℕ)
    → IsFirst places first → IsFirst (places ++ Some id ∷ []) first
first_more places first id is = record {
  within = omega (arith, is.within, length-append places (Some id ∷ []));
  before = λ j lt. get_or_append_left places (Some id ∷ []) None j (omega (arith, is.within))
      ∙ is.before j lt;
  first_open = λ lt. elim (cases_lt first (length places)) [
    | inl below ↦
        let had = is.first_open below in
        (had.0, get_or_append_left places (Some id ∷ []) None first below ∙ had.1)
    | inr above ↦
        let last : first ≡ length places = omega (arith, is.within) in
        (id, rw last (get_or-append_seam places (Some id) [] None))
  ];
}

-- of places that have an id each the first is 0
pub first_zero : (places : List (Option (List ℕ))) → IsFirst (filter is_some places) 0
first_zero places = record {
  within = omega arith;
  before = λ j lt. absurd (omega arith);
  first_open = λ lt.
      let kept = filter is_some places in
      has_id kept 0 (get_or kept 0 None) lt
      (get_or_default kept 0 None (get_or kept 0 None) lt) (filter_passes is_some places 0 None lt);
}

-- by the value of an option
pub matched : {X : Type 0} (r : Option X) (x : X) (N : Type 0) (S : X → Type 0) → r ≡ Some x → S x
    → MatchOption r N S
matched r x N S e s = rw e s

-- by the value that an option of a reference shows
pub shown : {X : Type 0} (r : Option (Bor X)) (x : X) (N : Type 0) (S : X → Type 0)
    → option_copied r ≡ Some x → S x → MatchOption r N (λ b. S b.now)
shown None x N S e s = absurd (cc)
shown (Some b) x N S e s = let same : b.now ≡ x = cc in rw same s

-- where there are no places none is open
pub none_placed : (places : List (Option (List ℕ))) → places ≡ []
    → AllPairs (λ id other. id ≢ other) (open_ids places)
    × (0 ≡ length (open_ids places)) × IsFirst places 0
none_placed [] none = (
  search rules,
  refl,
  record {
    within = omega arith;
    before = λ j lt. absurd (omega arith);
    first_open = λ lt. absurd (omega (arith, lt));
  },
)
none_placed (place ∷ places) none = absurd (cc)
