-- The place of the latest of a list of cycles, one cycle after the other.
use Rattle.std.proofs.Common.{◌≡◌, ℕ, ◌<◌, ◌≤◌, ◌⊎◌, inl, inr, arith, refl, sym, ◌∙◌}
use Rattle.std.proofs.Common.{List, [], ◌∷◌, ◌++◌, length, Option, Some, slice_get}
use Rattle.std.proofs.lemmas.Option.{none-some, same_Some, slice_get_within}
use Rattle.news_terms.proofs.ListPlaces.{at_pushed}
use Rattle.block_shelf.proofs.NewBufferSet.{pushed_before, pushed_last}
use Rattle.relay_remains.specs.Positions.{IsLatest}

-- no cycle is among these
abbrev pub IsNone : List (Option ℕ) → Type 0
IsNone cycles = (j d : ℕ) → slice_get cycles j ≡ Some (Some d) → ⊥

-- the cycle is the greatest of these, and stands last at this place; or there is none
pub record IsLatestOf (cycles : List (Option ℕ)) (place cycle : ℕ) : Type 0 where
  pub greatest : (j d : ℕ) → slice_get cycles j ≡ Some (Some d) → d ≤ cycle
  pub last : (j d : ℕ) → slice_get cycles j ≡ Some (Some d) → place < j → d < cycle
  pub here : (slice_get cycles place ≡ Some (Some cycle))
      ⊎ ((place ≡ 0) × (cycle ≡ 0) × IsNone cycles)

-- of no cycle
pub latest_none : IsLatestOf [] 0 0
latest_none = record {
  greatest = λ j d at. absurd (none-some (Some d) at);
  last = λ j d at behind. absurd (none-some (Some d) at);
  here = inr (refl, refl, λ j d at. none-some (Some d) at);
}

module _ (cycles : List (Option ℕ)) (place cycle : ℕ) (latest : IsLatestOf cycles place cycle) where
  -- it stays the latest where one more is none or less
  pub latest_stays : (one : Option ℕ) → ((d : ℕ) → one ≡ Some d → d < cycle)
      → IsLatestOf (cycles ++ one ∷ []) place cycle
  latest_stays one less = record {
    greatest = λ j d at. elim (at_pushed cycles one j (Some d) at) [
      | inl there ↦ latest.greatest j d there
      | inr end ↦ omega (arith, less d end.1)
    ];
    last = λ j d at behind. elim (at_pushed cycles one j (Some d) at) [
      | inl there ↦ latest.last j d there behind
      | inr end ↦ less d end.1
    ];
    here = elim latest.here [
      | inl there ↦ inl (pushed_before cycles one place (Some cycle) there)
      | inr none ↦ inr (
        none.0,
        none.1,
        λ j d at. elim (at_pushed cycles one j (Some d) at) [
          | inl there ↦ none.2 j d there
          | inr end ↦ omega (arith, less d end.1, none.1)
        ],
      )
    ];
  }

  -- one more that isn't less is the latest
  pub latest_next : (k d : ℕ) → k ≡ length cycles → cycle ≤ d
      → IsLatestOf (cycles ++ Some d ∷ []) k d
  latest_next k d at_end up = record {
    greatest = λ j e at. elim (at_pushed cycles (Some d) j (Some e) at) [
      | inl there ↦ omega (arith, up, latest.greatest j e there)
      | inr end ↦ omega (arith, same_Some d e end.1)
    ];
    last = λ j e at behind. elim (at_pushed cycles (Some d) j (Some e) at) [
      | inl there ↦ absurd (omega (
        arith,
        behind,
        at_end,
        slice_get_within cycles j (Some e) there,
      ))
      | inr end ↦ absurd (omega (arith, behind, at_end, end.0))
    ];
    here = inl (rw at_end (pushed_last cycles (Some d)));
  }

  -- what it is of all
  pub latest_is : IsLatest cycles place
  latest_is = record {
    none = λ no. elim latest.here [
      | inl there ↦ absurd (no place cycle there)
      | inr none ↦ none.0
    ];
    greatest = λ c at j d is. elim latest.here [
      | inl there ↦
          omega (arith, latest.greatest j d is, same c there at)
      | inr none ↦ absurd (none.2 j d is)
    ];
    last = λ c at j d is behind. elim latest.here [
      | inl there ↦
          omega (arith, latest.last j d is behind, same c there at)
      | inr none ↦ absurd (none.2 j d is)
    ];
    some = λ j d is. elim latest.here [
      | inl there ↦ (cycle, there)
      | inr none ↦ absurd (none.2 j d is)
    ];
  }
    where
      same : (c : ℕ) → slice_get cycles place ≡ Some (Some cycle)
          → slice_get cycles place ≡ Some (Some c) → cycle ≡ c
      same c there at = same_Some cycle c (same_Some (Some cycle) (Some c) (sym there ∙ at))

  -- it is one of the places, where there is one
  pub latest_within : 1 ≤ length cycles → place < length cycles
  latest_within some = elim latest.here [
    | inl there ↦ slice_get_within cycles place (Some cycle) there
    | inr none ↦ omega (arith, some, none.0)
  ]
