-- The place of a pick in its own buffer is the group's next place, and the fronts are one.
use Rattle.std.proofs.Common.{◌≡◌, ◌∙◌, ℕ, ◌+◌, ◌*◌, ◌/◌, ◌%◌, ◌≤◌, ◌<◌, length, List, [], ◌∷◌}
use Rattle.std.proofs.Common.{◌++◌, All, Option, None, Some, slice_get, ◌⊎◌, inl, inr, refl, sym}
use Rattle.std.proofs.Common.{ap, subst, arith, add-zero, add_assoc, mod-lt, zero-le, le_of_eq}
use Rattle.std.proofs.Common.{le_trans}
use Rattle.std.proofs.lemmas.Bool.{cases_eq}
use Rattle.std.proofs.lemmas.List.Elements.{All-pop}
use Rattle.std.proofs.lemmas.Option.{slice_get_within}
use Rattle.news_terms.specs.Fronts.{HasOwnNumbers, FitsGroup}
use Rattle.news_terms.specs.Places.{Buffer, Group, Mode, Interleave, Sequential, Head, blocks_of}
use Rattle.news_terms.specs.Places.{interleaved, sequential_at, place_in_buffer, place_in_runs}
use Rattle.news_terms.specs.Places.{head_after, next_place, extents, front_after, on_line}
use Rattle.news_terms.specs.Picks.{pick_by, pick_of, begins_in, placed_in, place_of_pick, head_past}
use Rattle.news_terms.specs.Picks.{front_at, room_of, head_of}
use Rattle.news_terms.specs.Positions.{position_by, position_of}
use Rattle.std.proofs.lemmas.Nat.{div-add-mod'}
use Rattle.news_terms.proofs.Extents.{by_push, whose_turn, front_here, front_elsewhere}
use Rattle.news_terms.proofs.InterleavedFronts as dealing
use Rattle.news_terms.proofs.PickedBegins.{Own_head_of, Own_place_of, own_head_here}
use Rattle.news_terms.proofs.PickedBegins.{own_head_elsewhere}
use Rattle.news_terms.proofs.PickedRuns.{Is_cut, Is_running, Goes_on, cut_first, goes_on}
use Rattle.news_terms.proofs.PickedRuns.{running_on, place_here, cut_here, cut_elsewhere}
use Rattle.news_terms.proofs.RunPlaces.{head_push}

-- the group of these buffers, in turn
abbrev In_turn : List Buffer → Group
In_turn buffers = record { mode = Interleave; buffers = buffers }

-- Interleave: the head of a buffer by its begins is that of the sizes that are dealt to it
dealt_heads : (buffers : List Buffer) (k : ℕ) (buffer : Buffer) (begun : List ℕ)
    → Own_head_of (In_turn buffers) k buffer begun
    ≡ dealing.Own_head buffer (length buffers) k begun
dealt_heads buffers k buffer =
    by_push
    (λ begun. Own_head_of (In_turn buffers) k buffer begun
    ≡ dealing.Own_head buffer (length buffers) k begun)
    refl
    (λ begun size earlier. by_turn begun size earlier
    (cases_eq (length begun % length buffers) k))
  where
    by_turn : (begun : List ℕ) (size : ℕ)
        → Own_head_of (In_turn buffers) k buffer begun
        ≡ dealing.Own_head buffer (length buffers) k begun
        → (length begun % length buffers ≡ k) ⊎ (length begun % length buffers ≡ k → ⊥)
        → Own_head_of (In_turn buffers) k buffer (begun ++ size ∷ [])
        ≡ dealing.Own_head buffer (length buffers) k (begun ++ size ∷ [])
    by_turn begun size earlier (inl turn) =
        own_head_here (In_turn buffers) k buffer begun size turn
        ∙ ap (λ head. head_past (place_in_runs (λ r. buffer.blocks) head size) size) earlier
        ∙ sym (dealing.own_head_here buffer (length buffers) k begun size turn)
    by_turn begun size earlier (inr other) =
        own_head_elsewhere (In_turn buffers) k buffer begun size other
        ∙ earlier
        ∙ sym (dealing.own_head_elsewhere buffer (length buffers) k begun size other)

-- Interleave: a pick's place is the next place
in_turn : (buffers : List Buffer) (begun : List ℕ) (size : ℕ)
    → next_place (In_turn buffers) begun size
    ≡ place_of_pick (In_turn buffers) begun (pick_of (In_turn buffers) begun size) size
in_turn buffers begun size =
    by_buffer (slice_get buffers (length begun % length buffers))
  where
    by_buffer : (found : Option Buffer)
        → interleaved buffers begun size found
        ≡ placed_in (begins_in (In_turn buffers) (length begun % length buffers) begun)
        (pick_of (In_turn buffers) begun size).fresh size found
    by_buffer None = refl
    by_buffer (Some buffer) =
        ap
        (λ head. Some (place_in_buffer buffer (place_in_runs (λ r. buffer.blocks) head size)))
        (sym (dealt_heads buffers (length begun % length buffers) buffer begun))

-- the group of these buffers, one after the other
abbrev One_by_one : List Buffer → Group
One_by_one buffers = record { mode = Sequential; buffers = buffers }

-- the head of all sizes begun
abbrev Head_of : List Buffer → List ℕ → Head
Head_of buffers begun = head_after (room_of buffers) begun

-- where the next size goes
abbrev Next_of : List Buffer → List ℕ → ℕ → Head
Next_of buffers begun size = place_in_runs (room_of buffers) (Head_of buffers begun) size

-- how many blocks a run of this buffer has
room_is : (buffers : List Buffer) (run k : ℕ) (buffer : Buffer)
    → slice_get buffers k ≡ Some buffer → run % length buffers ≡ k
    → room_of buffers run ≡ buffer.blocks
room_is buffers run k buffer there turn =
    ap (λ i. blocks_of (slice_get buffers i)) turn ∙ ap blocks_of there

-- what fits each buffer fits each run
fits_run : (buffers : List Buffer) (size : ℕ) → FitsGroup (One_by_one buffers) size
    → 0 < length buffers → (run : ℕ) → size ≤ room_of buffers run
fits_run buffers size fits some run =
    let whose : (one : Buffer) × (slice_get buffers (run % length buffers) ≡ Some one) =
    whose_turn buffers (run % length buffers) (mod-lt run some) in
    le_trans (fits.room (run % length buffers) whose.0 whose.1)
    (le_of_eq (sym (ap blocks_of whose.1)))

-- how the next article goes on from the head of the whole list
goes_from_head : (buffers : List Buffer) (begun : List ℕ) (size : ℕ)
    → FitsGroup (One_by_one buffers) size → 0 < length buffers
    → Is_running (room_of buffers) (Head_of buffers begun)
    → Goes_on (Head_of buffers begun) (Next_of buffers begun size)
    (pick_of (One_by_one buffers) begun size).fresh
    (room_of buffers (Head_of buffers begun).run) size
goes_from_head buffers begun size fits some running =
    goes_on (room_of buffers) (Head_of buffers begun) size
    (fits_run buffers size fits some (Head_of buffers begun).run) running

-- the head past one more article, which fits, is as far
running_past : (buffers : List Buffer) → 0 < length buffers → (begun : List ℕ) (size : ℕ)
    → FitsGroup (One_by_one buffers) size
    → Is_running (room_of buffers) (Head_of buffers begun)
    → Is_running (room_of buffers) (head_past (Next_of buffers begun size) size)
running_past buffers some begun size fits running =
    running_on (room_of buffers) (Head_of buffers begun) (Next_of buffers begun size)
    (pick_of (One_by_one buffers) begun size).fresh size (fits_run buffers size fits some) running
    (goes_from_head buffers begun size fits some running)

-- how the own head of buffer k stands to the head of the whole list, after these sizes
record Stands (buffers : List Buffer) (k : ℕ) (buffer : Buffer) (begun : List ℕ) : Type 0 where
  running : Is_running (room_of buffers) (Head_of buffers begun)
  cut :
      Is_cut (length buffers) k buffer.blocks
      (Own_head_of (One_by_one buffers) k buffer begun) (Head_of buffers begun)

-- the next article of a buffer is put, by its pick, at the cycle and block of its run
own_place : (buffers : List Buffer) (begun : List ℕ) (size : ℕ)
    → FitsGroup (One_by_one buffers) size → (k : ℕ) (buffer : Buffer)
    → slice_get buffers k ≡ Some buffer → (Next_of buffers begun size).run % length buffers ≡ k
    → Stands buffers k buffer begun
    → Own_place_of (One_by_one buffers) k buffer begun size
    ≡ record {
      run = (Next_of buffers begun size).run / length buffers;
      used = (Next_of buffers begun size).used;
    }
own_place buffers begun size fits k buffer there turn stands =
    let within : k < length buffers = slice_get_within buffers k buffer there in
    let some : 0 < length buffers = omega arith in
    place_here (length buffers) k buffer.blocks (Own_head_of (One_by_one buffers) k buffer begun)
    (Head_of buffers begun) (Next_of buffers begun size)
    (pick_of (One_by_one buffers) begun size).fresh size some turn (fits.room k buffer there)
    stands.cut (room_of buffers (Head_of buffers begun).run)
    (room_is buffers (Head_of buffers begun).run k buffer there)
    (goes_from_head buffers begun size fits some stands.running)

-- before any size
stands_first : (buffers : List Buffer) (k : ℕ) (buffer : Buffer)
    → slice_get buffers k ≡ Some buffer → Stands buffers k buffer []
stands_first buffers k buffer there =
    let within : k < length buffers = slice_get_within buffers k buffer there in
    record {
      running = record { within = zero-le; some = λ later. omega arith };
      cut = cut_first (length buffers) k buffer.blocks within;
    }

-- one more article leaves every own head so
stands_push : (buffers : List Buffer) (k : ℕ) (buffer : Buffer)
    → slice_get buffers k ≡ Some buffer → (begun : List ℕ) (size : ℕ)
    → FitsGroup (One_by_one buffers) size → Stands buffers k buffer begun
    → Stands buffers k buffer (begun ++ size ∷ [])
stands_push buffers k buffer there begun size fits stands = record {
  running =
      subst (Is_running (room_of buffers)) (sym (head_push (room_of buffers) begun size)) past;
  cut =
      subst
      (Is_cut (length buffers) k buffer.blocks
      (Own_head_of (One_by_one buffers) k buffer (begun ++ size ∷ [])))
      (sym (head_push (room_of buffers) begun size))
      (by_turn (cases_eq ((Next_of buffers begun size).run % length buffers) k));
}
  where
    within : k < length buffers
    within = slice_get_within buffers k buffer there

    some : 0 < length buffers
    some = omega (arith, within)

    past : Is_running (room_of buffers) (head_past (Next_of buffers begun size) size)
    past = running_past buffers some begun size fits stands.running

    by_turn : ((Next_of buffers begun size).run % length buffers ≡ k)
        ⊎ ((Next_of buffers begun size).run % length buffers ≡ k → ⊥)
        → Is_cut (length buffers) k buffer.blocks
        (Own_head_of (One_by_one buffers) k buffer (begun ++ size ∷ []))
        (head_past (Next_of buffers begun size) size)
    by_turn (inl turn) =
        subst
        (λ own. Is_cut (length buffers) k buffer.blocks own
        (head_past (Next_of buffers begun size) size))
        (sym (own_head_here (One_by_one buffers) k buffer begun size turn
        ∙ ap (λ at. head_past at size)
        (own_place buffers begun size fits k buffer there turn stands)))
        (cut_here (length buffers) k buffer.blocks (Next_of buffers begun size) size some turn
        past.some)
    by_turn (inr other) =
        subst
        (λ own. Is_cut (length buffers) k buffer.blocks own
        (head_past (Next_of buffers begun size) size))
        (sym (own_head_elsewhere (One_by_one buffers) k buffer begun size other))
        (cut_elsewhere (length buffers) k buffer.blocks
        (Own_head_of (One_by_one buffers) k buffer begun) (Head_of buffers begun)
        (Next_of buffers begun size) (pick_of (One_by_one buffers) begun size).fresh size within
        other (room_of buffers (Head_of buffers begun).run)
        (goes_from_head buffers begun size fits some stands.running) stands.cut)

-- every own head stands so, whatever was begun that fits
all_stand : (buffers : List Buffer) (k : ℕ) (buffer : Buffer) → slice_get buffers k ≡ Some buffer
    → (begun : List ℕ) → All (FitsGroup (One_by_one buffers)) begun
    → Stands buffers k buffer begun
all_stand buffers k buffer there =
    by_push
    (λ begun. All (FitsGroup (One_by_one buffers)) begun → Stands buffers k buffer begun)
    (λ fit. stands_first buffers k buffer there)
    (λ begun size earlier fit.
    let parts : All (FitsGroup (One_by_one buffers)) begun
    × FitsGroup (One_by_one buffers) size =
    All-pop (FitsGroup (One_by_one buffers)) (begun ++ size ∷ []) begun (Some size) refl fit in
    stands_push buffers k buffer there begun size parts.1 (earlier parts.0))

-- Sequential: a pick's place is the next place
one_by_one : (buffers : List Buffer) (begun : List ℕ)
    → All (FitsGroup (One_by_one buffers)) begun → (size : ℕ)
    → FitsGroup (One_by_one buffers) size
    → next_place (One_by_one buffers) begun size
    ≡ place_of_pick (One_by_one buffers) begun (pick_of (One_by_one buffers) begun size) size
one_by_one buffers begun fit size fits =
    by_buffer (slice_get buffers ((Next_of buffers begun size).run % length buffers)) refl
  where
    by_buffer : (found : Option Buffer)
        → slice_get buffers ((Next_of buffers begun size).run % length buffers) ≡ found
        → sequential_at (length buffers) (Next_of buffers begun size) found
        ≡ placed_in
        (begins_in (One_by_one buffers) ((Next_of buffers begun size).run % length buffers) begun)
        (pick_of (One_by_one buffers) begun size).fresh size found
    by_buffer None there = refl
    by_buffer (Some buffer) there =
        ap (λ at. Some (place_in_buffer buffer at))
        (sym (own_place buffers begun size fits
        ((Next_of buffers begun size).run % length buffers) buffer there refl
        (all_stand buffers ((Next_of buffers begun size).run % length buffers) buffer there begun
        fit)))

-- a pick's place is the next place
pub picked_places : (group : Group) (begun : List ℕ) → All (FitsGroup group) begun
    → (size : ℕ) → FitsGroup group size
    → next_place group begun size
    ≡ place_of_pick group begun (pick_of group begun size) size
picked_places group = by_mode group.mode group.buffers
  where
    by_mode : (mode : Mode) (buffers : List Buffer) (begun : List ℕ)
        → All (FitsGroup (record { mode = mode; buffers = buffers })) begun
        → (size : ℕ) → FitsGroup (record { mode = mode; buffers = buffers }) size
        → next_place (record { mode = mode; buffers = buffers }) begun size
        ≡ place_of_pick (record { mode = mode; buffers = buffers }) begun
        (pick_of (record { mode = mode; buffers = buffers }) begun size) size
    by_mode Interleave buffers begun fit size fits = in_turn buffers begun size
    by_mode Sequential buffers begun fit size fits = one_by_one buffers begun fit size fits

-- what is picked is one of the buffers, where there is one
pub pick_within : (group : Group) (begun : List ℕ) (size : ℕ) → 0 < length group.buffers
    → (pick_of group begun size).index < length group.buffers
pick_within group begun size some = by_mode group.mode
  where
    by_mode : (mode : Mode) → (pick_by mode group.buffers begun size).index < length group.buffers
    by_mode Interleave = mod-lt (length begun) some
    by_mode Sequential = mod-lt (Next_of group.buffers begun size).run some

-- the next place, by the buffer that is picked
picked_place : (group : Group) (begun : List ℕ) → All (FitsGroup group) begun
    → (size : ℕ) → FitsGroup group size → (k : ℕ) (buffer : Buffer)
    → (pick_of group begun size).index ≡ k → slice_get group.buffers k ≡ Some buffer
    → next_place group begun size
    ≡ Some (place_in_buffer buffer (Own_place_of group k buffer begun size))
picked_place group begun fit size fits k buffer turn there =
    picked_places group begun fit size fits
    ∙ ap
    (λ i. placed_in (begins_in group i begun) (pick_of group begun size).fresh size
    (slice_get group.buffers i)) turn
    ∙ ap (placed_in (begins_in group k begun) (pick_of group begun size).fresh size) there

-- the front of a buffer is where its own head is
pub picked_fronts : (group : Group) → HasOwnNumbers group → (begun : List ℕ)
    → All (FitsGroup group) begun → (i : ℕ) (buffer : Buffer)
    → slice_get group.buffers i ≡ Some buffer
    → front_after buffer (extents group begun)
    ≡ front_at buffer (Own_head_of group i buffer begun)
picked_fronts group numbers begun fit i buffer there =
    by_push
    (λ begun. All (FitsGroup group) begun
    → front_after buffer (extents group begun)
    ≡ front_at buffer (Own_head_of group i buffer begun))
    (λ fit. ap (λ cycle. on_line buffer.blocks cycle 0) (sym (add-zero buffer.first_cycle)))
    (λ begun size earlier fit.
    let parts : All (FitsGroup group) begun × FitsGroup group size =
    All-pop (FitsGroup group) (begun ++ size ∷ []) begun (Some size) refl fit in
    by_turn begun size parts.0 parts.1 (earlier parts.0)
    (cases_eq (pick_of group begun size).index i))
    begun fit
  where
    within : i < length group.buffers
    within = slice_get_within group.buffers i buffer there

    some : 0 < length group.buffers
    some = omega (arith, within)

    by_turn : (begun : List ℕ) (size : ℕ) → All (FitsGroup group) begun
        → FitsGroup group size
        → front_after buffer (extents group begun)
        ≡ front_at buffer (Own_head_of group i buffer begun)
        → ((pick_of group begun size).index ≡ i) ⊎ ((pick_of group begun size).index ≡ i → ⊥)
        → front_after buffer (extents group (begun ++ size ∷ []))
        ≡ front_at buffer (Own_head_of group i buffer (begun ++ size ∷ []))
    by_turn begun size fit fits earlier (inl turn) =
        let at : Head = Own_place_of group i buffer begun size in
        front_here group begun size (place_in_buffer buffer at) buffer
        (picked_place group begun fit size fits i buffer turn there) refl
        ∙ add_assoc ((buffer.first_cycle + at.run) * buffer.blocks) at.used size
        ∙ ap (front_at buffer) (sym (own_head_here group i buffer begun size turn))
    by_turn begun size fit fits earlier (inr other) =
        let index : ℕ = (pick_of group begun size).index in
        let whose : (one : Buffer) × (slice_get group.buffers index ≡ Some one) =
        whose_turn group.buffers index (pick_within group begun size some) in
        front_elsewhere group begun size _ buffer
        (picked_place group begun fit size fits index whose.0 refl whose.1)
        (λ e. other (numbers.own index i whose.0 buffer whose.1 there e))
        ∙ earlier
        ∙ ap (front_at buffer) (sym (own_head_elsewhere group i buffer begun size other))

-- Sequential: the blocks used of the current buffer's own run are those of the group's position
pub used_of_position : (group : Group) (begun : List ℕ) → group.mode ≡ Sequential
    → All (FitsGroup group) begun → (buffer : Buffer)
    → slice_get group.buffers (position_of group begun).index ≡ Some buffer
    → (head_of buffer.blocks (begins_in group (position_of group begun).index begun)).used
    ≡ (position_of group begun).used
used_of_position group begun mode fit buffer there =
    by_mode group.mode group.buffers mode fit there
  where
    by_mode : (mode : Mode) (buffers : List Buffer) → mode ≡ Sequential
        → All (FitsGroup (record { mode = mode; buffers = buffers })) begun
        → slice_get buffers (position_by mode buffers begun).index ≡ Some buffer
        → (head_of buffer.blocks (begins_in (record { mode = mode; buffers = buffers })
        (position_by mode buffers begun).index begun)).used
        ≡ (position_by mode buffers begun).used
    by_mode Interleave buffers e fit there = absurd cc
    by_mode Sequential buffers e fit there =
        let run = (Head_of buffers begun).run in
        ap (λ (head : Head). head.used)
        ((all_stand buffers (run % length buffers) buffer there begun fit).cut.here
        (run / length buffers) (sym (div-add-mod' run (length buffers))))
