-- The laws of fronts, for a group in either mode.
use Rattle.std.proofs.Common.{is_some, true, length, ◌<◌, ◌≡◌, ◌∙◌, ℕ, ◌≤◌, List, [], ◌∷◌, ◌++◌}
use Rattle.std.proofs.Common.{All, Option, None, Some, slice_get, ◌⊎◌, inl, inr, refl, sym, ap}
use Rattle.std.proofs.Common.{subst, arith, append_assoc, append-nil, le_of_eq, le_trans}
use Rattle.std.proofs.lemmas.Bool.{cases_eq}
use Rattle.std.proofs.lemmas.List.Elements.{All-pop}
use Rattle.std.proofs.lemmas.Option.{same_Some}
use Rattle.news_terms.specs.Fronts.{HasOwnNumbers, FitsGroup, IsAtOrPastFront, IsAmongBuffers}
use Rattle.news_terms.specs.Fronts.{EndsInBuffer}
use Rattle.news_terms.specs.Places.{Buffer, Group, Mode, Interleave, Sequential, Place, next_place}
use Rattle.news_terms.specs.Places.{with_extent, extents, front_after, on_line}
use Rattle.news_terms.proofs.Extents.{by_push, extents_after_push, front_here, front_elsewhere}
use Rattle.news_terms.proofs.InterleavedFronts as interleaved
use Rattle.news_terms.proofs.SequentialFronts as sequential

-- the next article is in one of the group's buffers
pub next_among : (group : Group) (begun : List ℕ) (size : ℕ) (place : Place)
    → next_place group begun size ≡ Some place → IsAmongBuffers group place
next_among group = by_mode group.mode group.buffers
  where
    by_mode : (mode : Mode) (buffers : List Buffer) (begun : List ℕ) (size : ℕ) (place : Place)
        → next_place (record { mode = mode; buffers = buffers }) begun size ≡ Some place
        → IsAmongBuffers (record { mode = mode; buffers = buffers }) place
    by_mode Interleave buffers = interleaved.next_among buffers
    by_mode Sequential buffers = sequential.next_among buffers

-- the next article ends in its buffer
pub next_ends : (group : Group) (begun : List ℕ) (size : ℕ) → FitsGroup group size → (place : Place)
    → next_place group begun size ≡ Some place → EndsInBuffer place size
next_ends group = by_mode group.mode group.buffers
  where
    by_mode : (mode : Mode) (buffers : List Buffer) (begun : List ℕ) (size : ℕ)
        → FitsGroup (record { mode = mode; buffers = buffers }) size → (place : Place)
        → next_place (record { mode = mode; buffers = buffers }) begun size ≡ Some place
        → EndsInBuffer place size
    by_mode Interleave buffers = interleaved.next_ends buffers
    by_mode Sequential buffers = sequential.next_ends buffers

-- the next article is at the front of its buffer or past it
pub next_at_or_past : (group : Group) → HasOwnNumbers group → (begun : List ℕ)
    → All (FitsGroup group) begun → (size : ℕ) (place : Place)
    → next_place group begun size ≡ Some place → IsAtOrPastFront group begun place
next_at_or_past group = by_mode group.mode group.buffers
  where
    by_mode : (mode : Mode) (buffers : List Buffer)
        → HasOwnNumbers (record { mode = mode; buffers = buffers }) → (begun : List ℕ)
        → All (FitsGroup (record { mode = mode; buffers = buffers })) begun
        → (size : ℕ) (place : Place)
        → next_place (record { mode = mode; buffers = buffers }) begun size ≡ Some place
        → IsAtOrPastFront (record { mode = mode; buffers = buffers }) begun place
    by_mode Interleave buffers = interleaved.next_at_or_past buffers
    by_mode Sequential buffers = sequential.next_at_or_past buffers

-- two of a group's buffers with one number are one
pub same_buffer : (group : Group) → HasOwnNumbers group → (i j : ℕ) (a b : Buffer)
    → slice_get group.buffers i ≡ Some a → slice_get group.buffers j ≡ Some b → a.number ≡ b.number
    → a ≡ b
same_buffer group numbers i j a b at_i at_j same =
    same_Some a b (sym at_i ∙ ap (slice_get group.buffers) (numbers.own i j a b at_i at_j same)
    ∙ at_j)

-- one more article lowers no front
pub front_rises : (group : Group) → HasOwnNumbers group → (begun : List ℕ)
    → All (FitsGroup group) begun
    → (size : ℕ) → FitsGroup group size → (i : ℕ) (buffer : Buffer)
    → slice_get group.buffers i ≡ Some buffer
    → front_after buffer (extents group begun)
    ≤ front_after buffer (extents group (begun ++ size ∷ []))
front_rises group numbers begun fit size fits i buffer there =
    by_place (next_place group begun size) refl
  where
    by_number : (place : Place) → next_place group begun size ≡ Some place
        → (place.buffer.number ≡ buffer.number) ⊎ (place.buffer.number ≡ buffer.number → ⊥)
        → front_after buffer (extents group begun)
        ≤ front_after buffer (extents group (begun ++ size ∷ []))
    by_number place next (inl same) =
        let among : IsAmongBuffers group place = next_among group begun size place next in
        let one : place.buffer ≡ buffer =
        same_buffer group numbers among.index i place.buffer buffer among.there there same in
        let past : front_after buffer (extents group begun)
        ≤ on_line buffer.blocks place.cycle place.first =
        subst (λ b. front_after b (extents group begun) ≤ on_line b.blocks place.cycle place.first)
        one
        (next_at_or_past group numbers begun fit size place next).past in
        le_trans (le_trans past (omega arith))
        (le_of_eq (sym (front_here group begun size place buffer next same)))
    by_number place next (inr other) =
        le_of_eq (sym (front_elsewhere group begun size place buffer next other))

    by_place : (found : Option Place) → next_place group begun size ≡ found
        → front_after buffer (extents group begun)
        ≤ front_after buffer (extents group (begun ++ size ∷ []))
    by_place None next =
        le_of_eq (ap (front_after buffer)
        (sym (extents_after_push group [] begun size
        ∙ ap (λ p. extents group begun ++ with_extent p size []) next
        ∙ append-nil (extents group begun))))
    by_place (Some place) next =
        by_number place next (cases_eq place.buffer.number buffer.number)

-- more articles lower no front
pub front_never_falls : (group : Group) → HasOwnNumbers group → (begun more : List ℕ)
    → All (FitsGroup group) (begun ++ more) → (i : ℕ) (buffer : Buffer)
    → slice_get group.buffers i ≡ Some buffer
    → front_after buffer (extents group begun) ≤ front_after buffer (extents group (begun ++ more))
front_never_falls group numbers begun more fit i buffer there =
    by_push
    (λ sizes. All (FitsGroup group) (begun ++ sizes)
    → front_after buffer (extents group begun)
    ≤ front_after buffer (extents group (begun ++ sizes)))
    (λ fit. le_of_eq (ap (λ sizes. front_after buffer (extents group sizes))
    (sym (append-nil begun))))
    (λ sizes size earlier fit.
    let parts : All (FitsGroup group) (begun ++ sizes) × FitsGroup group size =
    All-pop (FitsGroup group) (begun ++ (sizes ++ size ∷ [])) (begun ++ sizes) (Some size)
    (sym (append_assoc begun sizes (size ∷ []))) fit in
    le_trans (earlier parts.0)
    (le_trans
    (front_rises group numbers (begun ++ sizes) parts.0 size parts.1 i buffer there)
    (le_of_eq (ap (λ all. front_after buffer (extents group all))
    (append_assoc begun sizes (size ∷ []))))))
    more fit

-- the next article has a place where the group has a buffer
pub next_some : (group : Group) → 0 < length group.buffers → (begun : List ℕ) (size : ℕ)
    → is_some (next_place group begun size) ≡ true
next_some group = by_mode group.mode group.buffers
  where
    by_mode : (mode : Mode) (buffers : List Buffer) → 0 < length buffers → (begun : List ℕ)
        (size : ℕ) → is_some (next_place (record { mode = mode; buffers = buffers }) begun size)
        ≡ true
    by_mode Interleave buffers = interleaved.next_some buffers
    by_mode Sequential buffers = sequential.next_some buffers
