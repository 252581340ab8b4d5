-- Interleave: the front of each buffer is where the head of its own sizes is.
use Rattle.std.proofs.Common.{is_some, ◌≡◌, ◌∙◌, ℕ, suc, ◌+◌, ◌*◌, ◌%◌, ◌≤◌, ◌<◌, ◌==◌, length}
use Rattle.std.proofs.Common.{Bool, true, false, List, [], ◌∷◌, ◌++◌, All, Option, None, Some}
use Rattle.std.proofs.Common.{slice_get, ◌⊎◌, inl, inr, if◌then◌else◌, refl, sym, ap, subst, arith}
use Rattle.std.proofs.Common.{append-nil, add-zero, add_assoc, zero-add, mod-lt, le_of_eq, le_trans}
use Rattle.std.proofs.Common.{zero-le}
use Rattle.std.proofs.lemmas.Bool.{cond-true, cond-false, cases_eq, eq-eqb, ne_eqb}
use Rattle.std.proofs.lemmas.List.Elements.{All-pop}
use Rattle.std.proofs.lemmas.Option.{same_Some, none-some, slice_get_within}
use Rattle.news_terms.specs.Fronts.{HasOwnNumbers, FitsGroup, IsAtOrPastFront, IsAmongBuffers}
use Rattle.news_terms.specs.Fronts.{EndsInBuffer}
use Rattle.news_terms.specs.Places.{Buffer, Group, Interleave, Place, Head, dealt, interleaved}
use Rattle.news_terms.specs.Places.{place_in_buffer, place_in_runs, after_size, head_after}
use Rattle.news_terms.specs.Places.{next_place, extents, front_after, on_line}
use Rattle.news_terms.proofs.Extents.{by_push, whose_turn, front_here, front_elsewhere}
use Rattle.news_terms.proofs.RunPlaces.{place_cases, head_push}

-- a size at the end is dealt last
dealt_push : (m k i : ℕ) (sizes : List ℕ) (size : ℕ)
    → dealt m k i (sizes ++ size ∷ [])
    ≡ dealt m k i sizes ++ (if (i + length sizes) % m == k then size ∷ [] else [])
dealt_push m k i [] size =
    ap (λ n. if n % m == k then size ∷ [] else []) (sym (add-zero i))
dealt_push m k i (first ∷ sizes) size =
    let count : i + 1 + length sizes ≡ i + suc (length sizes) = omega arith in
    by_test (i % m == k)
    (dealt_push m k (i + 1) sizes size
    ∙ ap (λ n. dealt m k (i + 1) sizes ++ (if n % m == k then size ∷ [] else [])) count)
  where
    by_test : (test : Bool)
        → dealt m k (i + 1) (sizes ++ size ∷ [])
        ≡ dealt m k (i + 1) sizes ++ (if (i + suc (length sizes)) % m == k then size ∷ [] else [])
        → (if test then first ∷ dealt m k (i + 1) (sizes ++ size ∷ []) else dealt m k (i + 1)
        (sizes ++ size ∷ []))
        ≡ (if test then first ∷ dealt m k (i + 1) sizes else dealt m k (i + 1) sizes)
        ++ (if (i + length (first ∷ sizes)) % m == k then size ∷ [] else [])
    by_test true later = ap (λ rest. first ∷ rest) later
    by_test false later = later

-- the head of a buffer's own sizes
abbrev pub Own_head : Buffer → ℕ → ℕ → List ℕ → Head
Own_head buffer m k begun = head_after (λ r. buffer.blocks) (dealt m k 0 begun)

-- its own size moves the head of a buffer
pub own_head_here : (buffer : Buffer) (m k : ℕ) (begun : List ℕ) (size : ℕ) → length begun % m ≡ k
    → Own_head buffer m k (begun ++ size ∷ [])
    ≡ after_size (λ r. buffer.blocks) (Own_head buffer m k begun) size
own_head_here buffer m k begun size turn =
    ap (head_after (λ r. buffer.blocks))
    (dealt_push m k 0 begun size
    ∙ ap (λ own. dealt m k 0 begun ++ own)
    (cond-true ((0 + length begun) % m == k) (size ∷ []) []
    (eq-eqb ((0 + length begun) % m) k (ap (λ n. n % m) (zero-add (length begun)) ∙ turn))))
    ∙ head_push (λ r. buffer.blocks) (dealt m k 0 begun) size

-- another buffer's size doesn't
pub own_head_elsewhere : (buffer : Buffer) (m k : ℕ) (begun : List ℕ) (size : ℕ)
    → (length begun % m ≡ k → ⊥)
    → Own_head buffer m k (begun ++ size ∷ []) ≡ Own_head buffer m k begun
own_head_elsewhere buffer m k begun size other =
    ap (head_after (λ r. buffer.blocks))
    (dealt_push m k 0 begun size
    ∙ ap (λ own. dealt m k 0 begun ++ own)
    (cond-false ((0 + length begun) % m == k) (size ∷ []) []
    (ne_eqb ((0 + length begun) % m) k
    (λ e. other (ap (λ n. n % m) (sym (zero-add (length begun))) ∙ e))))
    ∙ append-nil (dealt m k 0 begun))

-- the group of these buffers, in turn
abbrev In_turn : List Buffer → Group
In_turn buffers = record { mode = Interleave; buffers = buffers }

-- the front of a buffer is where the head of its own sizes is, within the buffer
record At_head (buffers : List Buffer) (k : ℕ) (buffer : Buffer) (begun : List ℕ) : Type 0 where
  front :
      front_after buffer (extents (In_turn buffers) begun)
      ≡ on_line buffer.blocks (buffer.first_cycle + (Own_head buffer (length buffers) k begun).run)
      (Own_head buffer (length buffers) k begun).used
  within : (Own_head buffer (length buffers) k begun).used ≤ buffer.blocks

-- where the next article goes, by the buffer whose turn it is
next_in_turn : (buffers : List Buffer) (begun : List ℕ) (size : ℕ) (buffer : Buffer) (k : ℕ)
    → length begun % length buffers ≡ k → slice_get buffers k ≡ Some buffer
    → next_place (In_turn buffers) begun size
    ≡ Some (place_in_buffer buffer
    (place_in_runs (λ r. buffer.blocks) (Own_head buffer (length buffers) k begun) size))
next_in_turn buffers begun size buffer k turn there =
    ap (interleaved buffers begun size) (ap (slice_get buffers) turn ∙ there)
    ∙ ap
    (λ n. Some (place_in_buffer buffer
    (place_in_runs (λ r. buffer.blocks) (Own_head buffer (length buffers) n begun) size)))
    turn

-- the blocks used of a run with one more article are within it
used_within : (blocks : ℕ) (head : Head) (size : ℕ) → size ≤ blocks
    → (place_in_runs (λ r. blocks) head size).used + size ≤ blocks
used_within blocks head size fits = by_place (place_cases (λ r. blocks) head size)
  where
    by_place : ((place_in_runs (λ r. blocks) head size ≡ head) × (head.used + size ≤ blocks))
        ⊎ (place_in_runs (λ r. blocks) head size ≡ record { run = head.run + 1; used = 0 })
        → (place_in_runs (λ r. blocks) head size).used + size ≤ blocks
    by_place (inl here) = le_trans (le_of_eq (ap (λ (h : Head). h.used + size) here.0)) here.1
    by_place (inr next) = le_trans
        (le_of_eq (ap (λ (h : Head). h.used + size) next ∙ zero-add size)) fits

-- one more article of the buffer itself leaves its front at its head
at_head_here : (buffers : List Buffer) (begun : List ℕ) (size : ℕ)
    → FitsGroup (In_turn buffers) size
    → (k : ℕ) (buffer : Buffer) → slice_get buffers k ≡ Some buffer
    → length begun % length buffers ≡ k → At_head buffers k buffer (begun ++ size ∷ [])
at_head_here buffers begun size fits k buffer there turn =
    let head : Head = Own_head buffer (length buffers) k begun in
    let at : Head = place_in_runs (λ r. buffer.blocks) head size in
    let moved : Own_head buffer (length buffers) k (begun ++ size ∷ [])
    ≡ after_size (λ r. buffer.blocks) head size =
    own_head_here buffer (length buffers) k begun size turn in
    record {
      front =
          front_here (In_turn buffers) begun size (place_in_buffer buffer at) buffer
          (next_in_turn buffers begun size buffer k turn there) refl
          ∙ add_assoc ((buffer.first_cycle + at.run) * buffer.blocks) at.used size
          ∙ ap (λ (h : Head). on_line buffer.blocks (buffer.first_cycle + h.run) h.used)
          (sym moved);
      within =
          le_trans (le_of_eq (ap (λ (h : Head). h.used) moved))
          (used_within buffer.blocks head size (fits.room k buffer there));
    }

-- one more article of another buffer does so too
at_head_elsewhere : (buffers : List Buffer) → HasOwnNumbers (In_turn buffers) → (begun : List ℕ)
    (size : ℕ) (k : ℕ) (buffer : Buffer) → slice_get buffers k ≡ Some buffer
    → (length begun % length buffers ≡ k → ⊥) → At_head buffers k buffer begun
    → At_head buffers k buffer (begun ++ size ∷ [])
at_head_elsewhere buffers numbers begun size k buffer there other at =
    let turn : ℕ = length begun % length buffers in
    let some : k < length buffers = slice_get_within buffers k buffer there in
    let whose : (one : Buffer) × (slice_get buffers turn ≡ Some one) =
    whose_turn buffers turn (mod-lt (length begun) (omega arith)) in
    let same : Own_head buffer (length buffers) k (begun ++ size ∷ [])
    ≡ Own_head buffer (length buffers) k begun =
    own_head_elsewhere buffer (length buffers) k begun size other in
    record {
      front =
          front_elsewhere (In_turn buffers) begun size _ buffer
          (next_in_turn buffers begun size whose.0 turn refl whose.1)
          (λ e. other (numbers.own turn k whose.0 buffer whose.1 there e))
          ∙ at.front
          ∙ ap (λ (h : Head). on_line buffer.blocks (buffer.first_cycle + h.run) h.used) (sym same);
      within = le_trans (le_of_eq (ap (λ (h : Head). h.used) same)) at.within;
    }

-- each front is at its head, whatever was begun that fits
fronts_at_heads : (buffers : List Buffer) → HasOwnNumbers (In_turn buffers)
    → (k : ℕ) (buffer : Buffer) → slice_get buffers k ≡ Some buffer
    → (begun : List ℕ) → All (FitsGroup (In_turn buffers)) begun → At_head buffers k buffer begun
fronts_at_heads buffers numbers k buffer there =
    by_push (λ begun. All (FitsGroup (In_turn buffers)) begun → At_head buffers k buffer begun)
    (λ fit. record {
      front = ap (λ cycle. on_line buffer.blocks cycle 0) (sym (add-zero buffer.first_cycle));
      within = zero-le;
    })
    (λ begun size earlier fit.
    let parts : All (FitsGroup (In_turn buffers)) begun × FitsGroup (In_turn buffers) size =
    All-pop (FitsGroup (In_turn buffers)) (begun ++ size ∷ []) begun (Some size) refl fit in
    by_turn begun size (earlier parts.0) parts.1 (cases_eq (length begun % length buffers) k))
  where
    by_turn : (begun : List ℕ) (size : ℕ) → At_head buffers k buffer begun
        → FitsGroup (In_turn buffers) size
        → (length begun % length buffers ≡ k) ⊎ (length begun % length buffers ≡ k → ⊥)
        → At_head buffers k buffer (begun ++ size ∷ [])
    by_turn begun size at fits (inl turn) = at_head_here buffers begun size fits k buffer there turn
    by_turn begun size at fits (inr other) =
        at_head_elsewhere buffers numbers begun size k buffer there other at

-- where the next article is: in the buffer whose turn it is, behind the head of its own sizes
record Is_in_turn (buffers : List Buffer) (begun : List ℕ) (size : ℕ) (place : Place) : Type 0 where
  buffer : Buffer
  there : slice_get buffers (length begun % length buffers) ≡ Some buffer
  is :
      place ≡ place_in_buffer buffer
      (place_in_runs (λ r. buffer.blocks)
      (Own_head buffer (length buffers) (length begun % length buffers) begun) size)

-- the place of the next article is that
next_is : (buffers : List Buffer) (begun : List ℕ) (size : ℕ) (place : Place)
    → next_place (In_turn buffers) begun size ≡ Some place → Is_in_turn buffers begun size place
next_is buffers begun size place next =
    by_buffer (slice_get buffers (length begun % length buffers)) refl next
  where
    by_buffer : (found : Option Buffer) → slice_get buffers (length begun % length buffers) ≡ found
        → interleaved buffers begun size found ≡ Some place → Is_in_turn buffers begun size place
    by_buffer None there e = absurd (none-some place e)
    by_buffer (Some buffer) there e =
        record { buffer = buffer; there = there; is = sym (same_Some _ place e) }

-- the next article is in one of the buffers
pub next_among : (buffers : List Buffer) (begun : List ℕ) (size : ℕ) (place : Place)
    → next_place (In_turn buffers) begun size ≡ Some place → IsAmongBuffers (In_turn buffers) place
next_among buffers begun size place next =
    let at : Is_in_turn buffers begun size place = next_is buffers begun size place next in
    record {
      index = length begun % length buffers;
      there = at.there ∙ ap (λ (p : Place). Some p.buffer) (sym at.is);
    }

-- the next article ends in its buffer
pub next_ends : (buffers : List Buffer) (begun : List ℕ) (size : ℕ)
    → FitsGroup (In_turn buffers) size
    → (place : Place) → next_place (In_turn buffers) begun size ≡ Some place
    → EndsInBuffer place size
next_ends buffers begun size fits place next =
    let at : Is_in_turn buffers begun size place = next_is buffers begun size place next in
    subst (λ p. EndsInBuffer p size) (sym at.is)
    (record {
      ends =
          used_within at.buffer.blocks
          (Own_head at.buffer (length buffers) (length begun % length buffers) begun) size
          (fits.room (length begun % length buffers) at.buffer at.there);
    })

-- the place behind a head is on the line where that is, or past it
on_line_past : (buffer : Buffer) (head : Head) (size : ℕ) → head.used ≤ buffer.blocks
    → on_line buffer.blocks (buffer.first_cycle + head.run) head.used
    ≤ on_line buffer.blocks
    (buffer.first_cycle + (place_in_runs (λ r. buffer.blocks) head size).run)
    (place_in_runs (λ r. buffer.blocks) head size).used
on_line_past buffer head size within = by_place (place_cases (λ r. buffer.blocks) head size)
  where
    further : (blocks cycle run used : ℕ) → used ≤ blocks
        → (cycle + run) * blocks + used ≤ (cycle + (run + 1)) * blocks + 0
    further blocks cycle run used h = omega arith

    by_place : ((place_in_runs (λ r. buffer.blocks) head size ≡ head)
        × (head.used + size ≤ buffer.blocks))
        ⊎ (place_in_runs (λ r. buffer.blocks) head size ≡ record { run = head.run + 1; used = 0 })
        → on_line buffer.blocks (buffer.first_cycle + head.run) head.used
        ≤ on_line buffer.blocks
        (buffer.first_cycle + (place_in_runs (λ r. buffer.blocks) head size).run)
        (place_in_runs (λ r. buffer.blocks) head size).used
    by_place (inl here) =
        le_of_eq (ap (λ (h : Head). on_line buffer.blocks (buffer.first_cycle + h.run) h.used)
        (sym here.0))
    by_place (inr next) =
        le_trans (further buffer.blocks buffer.first_cycle head.run head.used within)
        (le_of_eq (ap (λ (h : Head). on_line buffer.blocks (buffer.first_cycle + h.run) h.used)
        (sym next)))

-- the next article is at the front of its buffer or past it
pub next_at_or_past : (buffers : List Buffer) → HasOwnNumbers (In_turn buffers) → (begun : List ℕ)
    → All (FitsGroup (In_turn buffers)) begun → (size : ℕ) (place : Place)
    → next_place (In_turn buffers) begun size ≡ Some place
    → IsAtOrPastFront (In_turn buffers) begun place
next_at_or_past buffers numbers begun fit size place next =
    let at : Is_in_turn buffers begun size place = next_is buffers begun size place next in
    let turn : ℕ = length begun % length buffers in
    let front : At_head buffers turn at.buffer begun =
    fronts_at_heads buffers numbers turn at.buffer at.there begun fit in
    subst (IsAtOrPastFront (In_turn buffers) begun) (sym at.is)
    (record {
      past =
          le_trans (le_of_eq front.front)
          (on_line_past at.buffer (Own_head at.buffer (length buffers) turn begun) size
          front.within);
    })

-- the next article has a place where there is a buffer
pub next_some : (buffers : List Buffer) → 0 < length buffers → (begun : List ℕ) (size : ℕ)
    → is_some (next_place (In_turn buffers) begun size) ≡ true
next_some buffers some begun size =
    let turn : ℕ = length begun % length buffers in
    let whose : (one : Buffer) × (slice_get buffers turn ≡ Some one) =
    whose_turn buffers turn (mod-lt (length begun) some) in
    ap is_some (next_in_turn buffers begun size whose.0 turn refl whose.1)
