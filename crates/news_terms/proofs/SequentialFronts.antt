-- Sequential: no front is past the next run of its buffer.
use Rattle.std.proofs.Common.{is_some, true, ◌≡◌, ◌∙◌, ℕ, suc, zero-le, ◌+◌, ◌*◌, ◌/◌, ◌%◌, ◌≤◌}
use Rattle.std.proofs.Common.{◌<◌, length, List, [], ◌∷◌, ◌++◌, All, Option, None, Some, slice_get}
use Rattle.std.proofs.Common.{◌⊎◌, inl, inr, refl, sym, ap, subst, arith, zero-add, mod-lt}
use Rattle.std.proofs.Common.{le_of_eq, le_trans, mul-le-mul_right, le_of_mul-le-mul_right}
use Rattle.std.proofs.Common.{lt_of_mul-lt-mul_right}
use Rattle.std.proofs.lemmas.Bool.{cases_eq}
use Rattle.std.proofs.lemmas.List.Elements.{All-pop}
use Rattle.std.proofs.lemmas.Option.{same_Some, none-some, slice_get_within}
use native.Mathlib.Nat.{div-add-mod'}
use Rattle.news_terms.specs.Fronts.{HasOwnNumbers, FitsGroup, IsAtOrPastFront, IsAmongBuffers}
use Rattle.news_terms.specs.Fronts.{EndsInBuffer}
use Rattle.news_terms.specs.Places.{Buffer, Group, Sequential, Place, Head, blocks_of}
use Rattle.news_terms.specs.Places.{sequential_at, place_in_runs, after_size, head_after}
use Rattle.news_terms.specs.Places.{next_place, extents, front_after, on_line}
use Rattle.news_terms.proofs.Extents.{by_push, whose_turn, front_here, front_elsewhere}
use Rattle.news_terms.proofs.RunPlaces.{place_cases, head_push}

-- the group of these buffers, one after the other
abbrev One_by_one : List Buffer → Group
One_by_one buffers = record { mode = Sequential; buffers = buffers }

-- how many blocks run r has
abbrev Room : List Buffer → ℕ → ℕ
Room buffers = λ r. blocks_of (slice_get buffers (r % length buffers))

-- the head of all sizes begun, and the place of the next one
abbrev Head_of : List Buffer → List ℕ → Head
Head_of buffers begun = head_after (Room buffers) begun

-- where the next size goes
abbrev Next_of : List Buffer → List ℕ → ℕ → Head
Next_of buffers begun size = place_in_runs (Room buffers) (Head_of buffers begun) size

-- the place in this buffer of a run and the blocks used of it
abbrev Place_of_run : List Buffer → Buffer → Head → Place
Place_of_run buffers buffer at =
    record {
      buffer = buffer;
      cycle = buffer.first_cycle + at.run / length buffers;
      first = at.used;
    }

-- an earlier run of one buffer has an earlier cycle
earlier_run : (m k early late : ℕ) → early * m + k < late * m + k → early < late
earlier_run m k early late h = lt_of_mul-lt-mul_right m (omega arith)

-- of two runs of one buffer the one that is no later has a cycle that is no later
no_later_run : (m k early late : ℕ) → 0 < m → early * m + k ≤ late * m + k → early ≤ late
no_later_run m k early late some h = le_of_mul-le-mul_right (omega arith) some

-- an article of an earlier cycle ends before a later one begins
cycle_before : (blocks first early late used : ℕ) → early < late → used ≤ blocks
    → (first + early) * blocks + used ≤ (first + late) * blocks
cycle_before blocks first early late used before within =
    let h : (first + early + 1) * blocks ≤ (first + late) * blocks = mul-le-mul_right blocks
    (omega arith) in
    omega arith

-- a cycle that is no later begins no later
cycle_no_later : (blocks first early late : ℕ) → early ≤ late
    → (first + early) * blocks ≤ (first + late) * blocks
cycle_no_later blocks first early late h = mul-le-mul_right blocks (omega arith)

-- how far the front of a buffer is, at most: it isn't past any run of that buffer that is still to
-- come, and in the current run not past the blocks used
record Is_behind (buffers : List Buffer) (k : ℕ) (buffer : Buffer) (front : ℕ) (head : Head)
    : Type 0 where
  later : (q : ℕ) → head.run < q * length buffers + k
      → front ≤ (buffer.first_cycle + q) * buffer.blocks
  here : (q : ℕ) → head.run ≡ q * length buffers + k
      → front ≤ (buffer.first_cycle + q) * buffer.blocks + head.used

-- the next size goes behind the head, or to the front of the next run
abbrev Follows : Head → Head → Type 0
Follows head at = (at ≡ head) ⊎ (at ≡ record { run = head.run + 1; used = 0 })

-- the next size follows the head
follows : (buffers : List Buffer) (begun : List ℕ) (size : ℕ)
    → Follows (Head_of buffers begun) (Next_of buffers begun size)
follows buffers begun size = by_place (place_cases (Room buffers) (Head_of buffers begun) size)
  where
    by_place : ((Next_of buffers begun size ≡ Head_of buffers begun)
        × ((Head_of buffers begun).used + size ≤ Room buffers (Head_of buffers begun).run))
        ⊎ (Next_of buffers begun size ≡ record { run = (Head_of buffers begun).run + 1; used = 0 })
        → Follows (Head_of buffers begun) (Next_of buffers begun size)
    by_place (inl here) = inl here.0
    by_place (inr next) = inr next

-- an article ends within its run
ends_within : (buffers : List Buffer) (begun : List ℕ) (size : ℕ)
    → FitsGroup (One_by_one buffers) size
    → (buffer : Buffer)
    → slice_get buffers ((Next_of buffers begun size).run % length buffers) ≡ Some buffer
    → (Next_of buffers begun size).used + size ≤ buffer.blocks
ends_within buffers begun size fits buffer there =
    by_place (place_cases (Room buffers) (Head_of buffers begun) size)
  where
    by_place : ((Next_of buffers begun size ≡ Head_of buffers begun)
        × ((Head_of buffers begun).used + size ≤ Room buffers (Head_of buffers begun).run))
        ⊎ (Next_of buffers begun size ≡ record { run = (Head_of buffers begun).run + 1; used = 0 })
        → (Next_of buffers begun size).used + size ≤ buffer.blocks
    by_place (inl here) =
        le_trans (le_of_eq (ap (λ (h : Head). h.used + size) here.0))
        (le_trans here.1
        (le_of_eq (ap (λ (h : Head). Room buffers h.run) (sym here.0) ∙ ap blocks_of there)))
    by_place (inr next) =
        le_trans (le_of_eq (ap (λ (h : Head). h.used + size) next ∙ zero-add size))
        (fits.room ((Next_of buffers begun size).run % length buffers) buffer there)

-- where the next article is
record Is_next (buffers : List Buffer) (begun : List ℕ) (size : ℕ) (place : Place) : Type 0 where
  buffer : Buffer
  there : slice_get buffers ((Next_of buffers begun size).run % length buffers) ≡ Some buffer
  is : place ≡ Place_of_run buffers buffer (Next_of buffers begun size)

-- the place of the next article is that
next_is : (buffers : List Buffer) (begun : List ℕ) (size : ℕ) (place : Place)
    → next_place (One_by_one buffers) begun size ≡ Some place → Is_next buffers begun size place
next_is buffers begun size place next =
    by_buffer (slice_get buffers ((Next_of buffers begun size).run % length buffers)) refl next
  where
    by_buffer : (found : Option Buffer)
        → slice_get buffers ((Next_of buffers begun size).run % length buffers) ≡ found
        → sequential_at (length buffers) (Next_of buffers begun size) found ≡ Some place
        → Is_next buffers begun size place
    by_buffer None there e = absurd (none-some place e)
    by_buffer (Some buffer) there e =
        record { buffer = buffer; there = there; is = sym (same_Some _ place e) }

-- the place of the next article, by the buffer that its run has
next_there : (buffers : List Buffer) (begun : List ℕ) (size : ℕ) (buffer : Buffer)
    → slice_get buffers ((Next_of buffers begun size).run % length buffers) ≡ Some buffer
    → next_place (One_by_one buffers) begun size
    ≡ Some (Place_of_run buffers buffer (Next_of buffers begun size))
next_there buffers begun size buffer there =
    ap (sequential_at (length buffers) (Next_of buffers begun size)) there

-- an article of the buffer itself: the front past it is behind the next head
behind_here : (buffers : List Buffer) (buffer : Buffer) (k : ℕ) (at : Head) (size : ℕ)
    → 0 < length buffers → at.run % length buffers ≡ k → at.used + size ≤ buffer.blocks
    → Is_behind buffers k buffer
    (on_line buffer.blocks (buffer.first_cycle + at.run / length buffers) at.used + size)
    (record { run = at.run; used = at.used + size })
behind_here buffers buffer k at size some turn ends =
    let quotient : at.run / length buffers * length buffers + k ≡ at.run =
    ap (λ r. at.run / length buffers * length buffers + r) (sym turn)
    ∙ div-add-mod' at.run (length buffers) in
    record {
      later = λ q before.
          let earlier : at.run / length buffers < q =
          earlier_run (length buffers) k (at.run / length buffers) q (omega arith) in
          omega (
            arith,
            cycle_before buffer.blocks buffer.first_cycle (at.run / length buffers) q
                (at.used + size) earlier ends,
          );
      here = λ q same.
          let no_later : at.run / length buffers ≤ q =
          no_later_run (length buffers) k (at.run / length buffers) q some (omega arith) in
          omega (
            arith,
            cycle_no_later buffer.blocks buffer.first_cycle (at.run / length buffers) q
                no_later,
          );
    }

-- an article of another buffer: the front is behind the next head still
behind_elsewhere : (buffers : List Buffer) (buffer : Buffer) (k : ℕ) (head at : Head)
    (size front : ℕ)
    → Follows head at → Is_behind buffers k buffer front head
    → Is_behind buffers k buffer front (record { run = at.run; used = at.used + size })
behind_elsewhere buffers buffer k head at size front (inl same) behind = record {
  later = λ q before. behind.later q (le_trans (le_of_eq (ap (λ (h : Head). suc h.run) (sym same)))
      before);
  here = λ q e.
      let used : at.used ≡ head.used = ap (λ (h : Head). h.used) same in
      omega (arith, behind.here q (ap (λ (h : Head). h.run) (sym same) ∙ e), used);
}
behind_elsewhere buffers buffer k head at size front (inr next) behind =
    let run : at.run ≡ head.run + 1 = ap (λ (h : Head). h.run) next in
    record {
      later = λ q before. behind.later q (omega arith);
      here = λ q e. let below : head.run < q * length buffers + k = omega arith in omega
          (arith, behind.later q below);
    }

-- no front is past the next run of its buffer, after these sizes
abbrev Is_behind_head : List Buffer → ℕ → Buffer → List ℕ → Type 0
Is_behind_head buffers k buffer begun =
    Is_behind buffers k buffer (front_after buffer (extents (One_by_one buffers) begun))
    (Head_of buffers begun)

-- one more article leaves every front behind the head
behind_push : (buffers : List Buffer) → HasOwnNumbers (One_by_one buffers)
    → (begun : List ℕ) (size : ℕ)
    → FitsGroup (One_by_one buffers) size → (k : ℕ) (buffer : Buffer)
    → slice_get buffers k ≡ Some buffer
    → Is_behind_head buffers k buffer begun → Is_behind_head buffers k buffer (begun ++ size ∷ [])
behind_push buffers numbers begun size fits k buffer there behind =
    subst (Is_behind buffers k buffer (front_after buffer
    (extents (One_by_one buffers) (begun ++ size ∷ []))))
    (sym (head_push (Room buffers) begun size))
    (by_turn (cases_eq ((Next_of buffers begun size).run % length buffers) k))
  where
    at_turn : (Next_of buffers begun size).run % length buffers ≡ k
        → Is_behind buffers k buffer
        (front_after buffer (extents (One_by_one buffers) (begun ++ size ∷ [])))
        (after_size (Room buffers) (Head_of buffers begun) size)
    at_turn turn =
        let here : slice_get buffers ((Next_of buffers begun size).run % length buffers)
        ≡ Some buffer =
        ap (slice_get buffers) turn ∙ there in
        let some : k < length buffers = slice_get_within buffers k buffer there in
        subst
        (λ front. Is_behind buffers k buffer front
        (after_size (Room buffers) (Head_of buffers begun) size))
        (sym (front_here (One_by_one buffers) begun size _ buffer
        (next_there buffers begun size buffer here) refl))
        (behind_here buffers buffer k (Next_of buffers begun size) size (omega arith) turn
        (ends_within buffers begun size fits buffer here))

    not_turn : ((Next_of buffers begun size).run % length buffers ≡ k → ⊥)
        → Is_behind buffers k buffer
        (front_after buffer (extents (One_by_one buffers) (begun ++ size ∷ [])))
        (after_size (Room buffers) (Head_of buffers begun) size)
    not_turn other =
        let some : k < length buffers = slice_get_within buffers k buffer there in
        let turn : ℕ = (Next_of buffers begun size).run % length buffers in
        let whose : (one : Buffer) × (slice_get buffers turn ≡ Some one) =
        whose_turn buffers turn (mod-lt (Next_of buffers begun size).run (omega arith)) in
        subst
        (λ front. Is_behind buffers k buffer front
        (after_size (Room buffers) (Head_of buffers begun) size))
        (sym (front_elsewhere (One_by_one buffers) begun size _ buffer
        (next_there buffers begun size whose.0 whose.1)
        (λ e. other (numbers.own turn k whose.0 buffer whose.1 there e))))
        (behind_elsewhere buffers buffer k (Head_of buffers begun) (Next_of buffers begun size)
        size _
        (follows buffers begun size) behind)

    by_turn : ((Next_of buffers begun size).run % length buffers ≡ k)
        ⊎ ((Next_of buffers begun size).run % length buffers ≡ k → ⊥)
        → Is_behind buffers k buffer
        (front_after buffer (extents (One_by_one buffers) (begun ++ size ∷ [])))
        (after_size (Room buffers) (Head_of buffers begun) size)
    by_turn (inl turn) = at_turn turn
    by_turn (inr other) = not_turn other

-- no front is past the next run of its buffer, whatever was begun that fits
fronts_behind : (buffers : List Buffer) → HasOwnNumbers (One_by_one buffers)
    → (k : ℕ) (buffer : Buffer) → slice_get buffers k ≡ Some buffer
    → (begun : List ℕ) → All (FitsGroup (One_by_one buffers)) begun
    → Is_behind_head buffers k buffer begun
fronts_behind buffers numbers k buffer there =
    by_push (λ begun. All (FitsGroup (One_by_one buffers)) begun
    → Is_behind_head buffers k buffer begun)
    (λ fit. record {
      later = λ q before. omega (
        arith,
        cycle_no_later buffer.blocks buffer.first_cycle 0 q
            zero-le,
      );
      here = λ q same. omega (arith, cycle_no_later buffer.blocks buffer.first_cycle 0 q zero-le);
    })
    (λ begun size earlier fit.
    let parts : All (FitsGroup (One_by_one buffers)) begun × FitsGroup (One_by_one buffers) size =
    All-pop (FitsGroup (One_by_one buffers)) (begun ++ size ∷ []) begun (Some size) refl fit in
    behind_push buffers numbers begun size parts.1 k buffer there (earlier parts.0))

-- the next article is in one of the buffers
pub next_among : (buffers : List Buffer) (begun : List ℕ) (size : ℕ) (place : Place)
    → next_place (One_by_one buffers) begun size ≡ Some place
    → IsAmongBuffers (One_by_one buffers) place
next_among buffers begun size place next =
    let at : Is_next buffers begun size place = next_is buffers begun size place next in
    record {
      index = (Next_of buffers begun size).run % length buffers;
      there = at.there ∙ ap (λ (p : Place). Some p.buffer) (sym at.is);
    }

-- the next article ends in its buffer
pub next_ends : (buffers : List Buffer) (begun : List ℕ) (size : ℕ)
    → FitsGroup (One_by_one buffers) size
    → (place : Place) → next_place (One_by_one buffers) begun size ≡ Some place
    → EndsInBuffer place size
next_ends buffers begun size fits place next =
    let at : Is_next buffers begun size place = next_is buffers begun size place next in
    subst (λ p. EndsInBuffer p size) (sym at.is)
    (record { ends = ends_within buffers begun size fits at.buffer at.there })

-- a front behind the head is at or before the next place of its buffer
past_behind : (buffers : List Buffer) (buffer : Buffer) (head at : Head) (front : ℕ)
    → Follows head at
    → Is_behind buffers (at.run % length buffers) buffer front head
    → front ≤ on_line buffer.blocks (buffer.first_cycle + at.run / length buffers) at.used
past_behind buffers buffer head at front (inl same) behind =
    let used : at.used ≡ head.used = ap (λ (h : Head). h.used) same in
    let run : at.run ≡ head.run = ap (λ (h : Head). h.run) same in
    omega (
      arith,
      used,
      behind.here (at.run / length buffers) (sym run ∙ sym (div-add-mod' at.run (length buffers))),
    )
past_behind buffers buffer head at front (inr next) behind =
    let run : at.run ≡ head.run + 1 = ap (λ (h : Head). h.run) next in
    let below : head.run < at.run / length buffers * length buffers + at.run % length buffers =
    omega (arith, run, div-add-mod' at.run (length buffers)) in
    omega (arith, behind.later (at.run / length buffers) below)

-- the next article is at the front of its buffer or past it
pub next_at_or_past : (buffers : List Buffer) → HasOwnNumbers (One_by_one buffers)
    → (begun : List ℕ)
    → All (FitsGroup (One_by_one buffers)) begun → (size : ℕ) (place : Place)
    → next_place (One_by_one buffers) begun size ≡ Some place
    → IsAtOrPastFront (One_by_one buffers) begun place
next_at_or_past buffers numbers begun fit size place next =
    let at : Is_next buffers begun size place = next_is buffers begun size place next in
    subst (IsAtOrPastFront (One_by_one buffers) begun) (sym at.is)
    (record {
      past =
          past_behind buffers at.buffer (Head_of buffers begun) (Next_of buffers begun size) _
          (follows buffers begun size)
          (fronts_behind buffers numbers ((Next_of buffers begun size).run % length buffers)
          at.buffer at.there
          begun fit);
    })

-- the next article has a place where there is a buffer
pub next_some : (buffers : List Buffer) → 0 < length buffers → (begun : List ℕ) (size : ℕ)
    → is_some (next_place (One_by_one buffers) begun size) ≡ true
next_some buffers some begun size =
    let turn : ℕ = (Next_of buffers begun size).run % length buffers in
    let whose : (one : Buffer) × (slice_get buffers turn ≡ Some one) =
    whose_turn buffers turn (mod-lt (Next_of buffers begun size).run some) in
    ap is_some (next_there buffers begun size whose.0 whose.1)
