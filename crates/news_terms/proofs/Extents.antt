-- The articles that a group began, and the front of a buffer, after one more size.
use Rattle.std.proofs.Common.{◌≡◌, ◌∙◌, ℕ, ◌+◌, ◌<◌, ◌≤◌, ◌==◌, length, slice_get, get_or, ◌⊎◌, inl}
use Rattle.std.proofs.Common.{inr, arith, List, [], ◌∷◌, ◌++◌, Option, None, Some, refl, sym, ap}
use Rattle.std.proofs.Common.{subst, append_assoc, append-nil}
use Rattle.std.proofs.lemmas.Bool.{cond-true, cond-false, eq-eqb, ne_eqb}
use Rattle.std.proofs.lemmas.Option.{slice_get_cases}
use Rattle.std.proofs.lemmas.List.Sums.{fold_push}
use Rattle.news_terms.specs.Places.{Buffer, Group, Place, Extent, next_place, with_extent}
use Rattle.news_terms.specs.Places.{extents_after, extents, front_past, front_after, on_line}

-- what holds of an empty list, and of one element more behind, holds of every list
pub by_push : {X : Type 0} (P : List X → Type 0) → P []
    → ((xs : List X) (x : X) → P xs → P (xs ++ x ∷ [])) → (xs : List X) → P xs
by_push {X} P none more xs = from [] none xs
  where
    from : (front : List X) → P front → (rest : List X) → P (front ++ rest)
    from front holds [] = subst P (sym (append-nil front)) holds
    from front holds (x ∷ rest) =
        subst P (append_assoc front (x ∷ []) rest)
        (from (front ++ x ∷ []) (more front x holds) rest)

-- an article that joins a list joins its front part
with_extent-append : (place : Option Place) (size : ℕ) (early late : List Extent)
    → with_extent place size (early ++ late) ≡ with_extent place size early ++ late
with_extent-append None size early late = refl
with_extent-append (Some place) size early late = refl

-- one more size joins its article behind those that are begun from here on
pub extents_after_push : (group : Group) (before sizes : List ℕ) (size : ℕ)
    → extents_after group before (sizes ++ size ∷ [])
    ≡ extents_after group before sizes ++ with_extent (next_place group (before ++ sizes) size)
    size []
extents_after_push group before [] size =
    ap (λ b. with_extent (next_place group b size) size []) (sym (append-nil before))
extents_after_push group before (first ∷ sizes) size =
    ap (with_extent (next_place group before first) first)
    (extents_after_push group (before ++ first ∷ []) sizes size
    ∙ ap
    (λ b. extents_after group (before ++ first ∷ []) sizes ++ with_extent (next_place group b size)
    size [])
    (append_assoc before (first ∷ []) sizes))
    ∙ with_extent-append (next_place group before first) first _ _

-- one more size joins one more article
pub extents_push : (group : Group) (begun : List ℕ) (size : ℕ) (place : Place)
    → next_place group begun size ≡ Some place
    → extents group (begun ++ size ∷ []) ≡ extents group begun ++ record
    { place = place; size = size } ∷ []
extents_push group begun size place next =
    extents_after_push group [] begun size
    ∙ ap (λ p. extents group begun ++ with_extent p size []) next

-- the front of a buffer after one more article
front_push : (group : Group) (begun : List ℕ) (size : ℕ) (place : Place) (buffer : Buffer)
    → next_place group begun size ≡ Some place
    → front_after buffer (extents group (begun ++ size ∷ []))
    ≡ front_past buffer (front_after buffer (extents group begun))
    (record { place = place; size = size })
front_push group begun size place buffer next =
    ap (front_after buffer) (extents_push group begun size place next)
    ∙ fold_push (front_past buffer) (on_line buffer.blocks buffer.first_cycle 0)
    (extents group begun)
    (record { place = place; size = size })

-- the front of the buffer that the article is in is past its last block
pub front_here : (group : Group) (begun : List ℕ) (size : ℕ) (place : Place) (buffer : Buffer)
    → next_place group begun size ≡ Some place → place.buffer.number ≡ buffer.number
    → front_after buffer (extents group (begun ++ size ∷ []))
    ≡ on_line buffer.blocks place.cycle place.first + size
front_here group begun size place buffer next same =
    front_push group begun size place buffer next
    ∙ cond-true (place.buffer.number == buffer.number) _ _
    (eq-eqb place.buffer.number buffer.number same)

-- the front of every other buffer stays
pub front_elsewhere : (group : Group) (begun : List ℕ) (size : ℕ) (place : Place) (buffer : Buffer)
    → next_place group begun size ≡ Some place → (place.buffer.number ≡ buffer.number → ⊥)
    → front_after buffer (extents group (begun ++ size ∷ []))
    ≡ front_after buffer (extents group begun)
front_elsewhere group begun size place buffer next other =
    front_push group begun size place buffer next
    ∙ cond-false (place.buffer.number == buffer.number) _ _
    (ne_eqb place.buffer.number buffer.number other)

-- the buffer whose turn it is, where the list has one
pub whose_turn : (buffers : List Buffer) (turn : ℕ) → turn < length buffers
    → (buffer : Buffer) × (slice_get buffers turn ≡ Some buffer)
whose_turn buffers turn within = by_place (slice_get_cases buffers turn).1
  where
    by_place : ((buffer : Buffer) × (turn < length buffers) × (slice_get buffers turn ≡ Some buffer)
        × (get_or buffers turn buffer ≡ buffer))
        ⊎ ((length buffers ≤ turn) × (slice_get buffers turn ≡ None))
        → (buffer : Buffer) × (slice_get buffers turn ≡ Some buffer)
    by_place (inl found) = (found.0, found.2)
    by_place (inr past) = absurd (omega (arith, past.0))
