-- Without a crash the course of a group is what its sizes say.
use Rattle.std.proofs.Common.{◌≡◌, ◌∙◌, ℕ, ◌+◌, ◌<◌, ◌==◌, ◌&&◌, nat_lt, nat_le, Bool, true}
use Rattle.std.proofs.Common.{false, length, List, [], ◌∷◌, ◌++◌, All, Some, slice_get}
use Rattle.std.proofs.Common.{◌⊎◌, inl, inr, refl, sym, ap, arith, add-zero, mod-lt}
use Rattle.std.proofs.Common.{if◌then◌else◌, eq-eqb}
use Rattle.std.proofs.Math.Nat.{zero-mod}
use Rattle.std.proofs.lemmas.Bool.{cases_eq, cond-true, cond-false, ne_eqb}
use Rattle.std.proofs.lemmas.List.Elements.{All-pop}
use Rattle.std.proofs.lemmas.List.Sums.{fold-append}
use Rattle.std.proofs.lemmas.Option.{slice_get_within}
use Rattle.news_terms.specs.Fronts.{HasOwnNumbers, FitsGroup}
use Rattle.news_terms.specs.Places.{Buffer, Group, Mode, Interleave, Sequential, Head, Place}
use Rattle.news_terms.specs.Places.{Extent}
use Rattle.news_terms.specs.Places.{next_place, extents, place_in_buffer}
use Rattle.news_terms.specs.Picks.{Pick, pick_of, begins_in, placed_in, place_after}
use Rattle.news_terms.specs.Positions.{Position, position_by, position_of, position_past, pick_at}
use Rattle.news_terms.proofs.Extents.{by_push, extents_push, whose_turn}
use Rattle.news_terms.proofs.PickedBegins.{Own_head_of, Own_place_of, own_head_here}
use Rattle.news_terms.proofs.PickedBegins.{own_head_elsewhere}
use Rattle.news_terms.proofs.PickedPlaces.{picked_places, pick_within, used_of_position}
use Rattle.news_terms.proofs.PickedPositions.{picked_at, position_push}
use Rattle.news_terms.specs.Courses.{At, at_after, at_past, placed_at, Course, first_course}
use Rattle.news_terms.specs.Courses.{pick_in, place_in, place_next, position_in, run_used}
use Rattle.news_terms.specs.Courses.{course_next, course_past, course_of, first_at}

-- where a buffer is whose head is here
abbrev pub at_of : Buffer → Head → At
at_of buffer head = record { cycle = buffer.first_cycle + head.run; used = head.used }

-- an article goes there by its head or by where it is
pub place_same : (buffer : Buffer) (head : Head) (fresh : Bool) (size : ℕ)
    → placed_at buffer (at_of buffer head) fresh size
    ≡ place_in_buffer buffer (place_after buffer.blocks head fresh size)
place_same buffer head fresh size =
    by (fresh && nat_lt 0 head.used) (nat_le (head.used + size) buffer.blocks)
  where
    next : ◌≡◌ {A = Place}
        (record {
          buffer = buffer;
          cycle = buffer.first_cycle + head.run + 1;
          first = 0;
        })
        (record { buffer = buffer; cycle = buffer.first_cycle + (head.run + 1); first = 0 })
    next =
        let same : buffer.first_cycle + head.run + 1 ≡ buffer.first_cycle + (head.run + 1) =
        omega arith in
        ap (λ (c : ℕ). record { buffer = buffer; cycle = c; first = 0 }) same

    by : (skips fits : Bool)
        → ◌≡◌ {A = Place}
        (if skips
        then record {
          buffer = buffer;
          cycle = buffer.first_cycle + head.run + 1;
          first = 0;
        }
        else (if fits
        then record {
          buffer = buffer;
          cycle = buffer.first_cycle + head.run;
          first = head.used;
        }
        else record {
          buffer = buffer;
          cycle = buffer.first_cycle + head.run + 1;
          first = 0;
        }))
        (place_in_buffer buffer
        (if skips then record { run = head.run + 1; used = 0 }
        else (if fits then head else record { run = head.run + 1; used = 0 })))
    by true fits = next
    by false true = refl
    by false false = next

-- where a buffer is after one more article of its group
at_push : (group : Group) (begun : List ℕ) (size : ℕ) (place : Place) (buffer : Buffer)
    → next_place group begun size ≡ Some place
    → at_after buffer (extents group (begun ++ size ∷ []))
    ≡ at_past buffer (at_after buffer (extents group begun))
    (record { place = place; size = size })
at_push group begun size place buffer next =
    ap (at_after buffer) (extents_push group begun size place next)
    ∙ fold-append (at_past buffer) (first_at buffer)
    (extents group begun) (record { place = place; size = size } ∷ [])

-- the next place, by the buffer that is picked
picked_place : (group : Group) (begun : List ℕ) → All (FitsGroup group) begun
    → (size : ℕ) → FitsGroup group size → (k : ℕ) (buffer : Buffer)
    → (pick_of group begun size).index ≡ k → slice_get group.buffers k ≡ Some buffer
    → next_place group begun size
    ≡ Some (place_in_buffer buffer (Own_place_of group k buffer begun size))
picked_place group begun fit size fits k buffer turn there =
    picked_places group begun fit size fits
    ∙ ap
    (λ i. placed_in (begins_in group i begun) (pick_of group begun size).fresh size
    (slice_get group.buffers i)) turn
    ∙ ap (placed_in (begins_in group k begun) (pick_of group begun size).fresh size) there

-- a buffer is where its own head is
pub heads_are : (group : Group) → HasOwnNumbers group → (begun : List ℕ)
    → All (FitsGroup group) begun → (i : ℕ) (buffer : Buffer)
    → slice_get group.buffers i ≡ Some buffer
    → at_after buffer (extents group begun) ≡ at_of buffer (Own_head_of group i buffer begun)
heads_are group numbers begun fit i buffer there =
    by_push
    (λ begun. All (FitsGroup group) begun
    → at_after buffer (extents group begun) ≡ at_of buffer (Own_head_of group i buffer begun))
    (λ fit. ap (λ (cycle : ℕ). record { cycle = cycle; used = 0 })
    (sym (add-zero buffer.first_cycle)))
    (λ begun size earlier fit.
    let parts : All (FitsGroup group) begun × FitsGroup group size =
    All-pop (FitsGroup group) (begun ++ size ∷ []) begun (Some size) refl fit in
    by_turn begun size parts.0 parts.1 (earlier parts.0)
    (cases_eq (pick_of group begun size).index i))
    begun fit
  where
    within : i < length group.buffers
    within = slice_get_within group.buffers i buffer there

    some : 0 < length group.buffers
    some = omega (arith, within)

    by_turn : (begun : List ℕ) (size : ℕ) → All (FitsGroup group) begun
        → FitsGroup group size
        → at_after buffer (extents group begun) ≡ at_of buffer (Own_head_of group i buffer begun)
        → ((pick_of group begun size).index ≡ i) ⊎ ((pick_of group begun size).index ≡ i → ⊥)
        → at_after buffer (extents group (begun ++ size ∷ []))
        ≡ at_of buffer (Own_head_of group i buffer (begun ++ size ∷ []))
    by_turn begun size fit fits earlier (inl turn) =
        let at : Head = Own_place_of group i buffer begun size in
        at_push group begun size (place_in_buffer buffer at) buffer
        (picked_place group begun fit size fits i buffer turn there)
        ∙ cond-true (buffer.number == buffer.number) _ _
        (eq-eqb buffer.number buffer.number refl)
        ∙ ap (at_of buffer) (sym (own_head_here group i buffer begun size turn))
    by_turn begun size fit fits earlier (inr other) =
        let index : ℕ = (pick_of group begun size).index in
        let whose : (one : Buffer) × (slice_get group.buffers index ≡ Some one) =
        whose_turn group.buffers index (pick_within group begun size some) in
        at_push group begun size
        (place_in_buffer whose.0 (Own_place_of group index whose.0 begun size)) buffer
        (picked_place group begun fit size fits index whose.0 refl whose.1)
        ∙ cond-false (whose.0.number == buffer.number) _ _
        (ne_eqb whose.0.number buffer.number
        (λ e. other (numbers.own index i whose.0 buffer whose.1 there e)))
        ∙ earlier
        ∙ ap (at_of buffer) (sym (own_head_elsewhere group i buffer begun size other))

-- the course by the sizes
abbrev pub course_at : Group → List ℕ → Course
course_at group sizes =
    record { turn = (position_of group sizes).index; articles = extents group sizes }

-- a position is one of the group's buffers
position_within : (group : Group) (begun : List ℕ) → 0 < length group.buffers
    → (position_of group begun).index < length group.buffers
position_within group begun some = by_mode group.mode
  where
    by_mode : (mode : Mode) → (position_by mode group.buffers begun).index < length group.buffers
    by_mode Interleave = mod-lt (length begun) some
    by_mode Sequential = mod-lt _ some

-- as much of its run is used
used_same : (group : Group) → HasOwnNumbers group → 0 < length group.buffers → (begun : List ℕ)
    → All (FitsGroup group) begun
    → run_used group.mode (slice_get group.buffers (position_of group begun).index)
    (extents group begun)
    ≡ (position_of group begun).used
used_same group numbers some begun fit =
    let index : ℕ = (position_of group begun).index in
    let whose : (one : Buffer) × (slice_get group.buffers index ≡ Some one) =
    whose_turn group.buffers index (position_within group begun some) in
    by_mode group.mode refl index whose.0 whose.1 refl
  where
    by_mode : (mode : Mode) → group.mode ≡ mode → (index : ℕ) (one : Buffer)
        → slice_get group.buffers index ≡ Some one → (position_of group begun).index ≡ index
        → run_used mode (slice_get group.buffers (position_of group begun).index)
        (extents group begun)
        ≡ (position_of group begun).used
    by_mode Interleave e index one there at = ap (λ m. (position_by m group.buffers begun).used)
        (sym e)
    by_mode Sequential e index one there at =
        let here : slice_get group.buffers (position_of group begun).index ≡ Some one =
        ap (slice_get group.buffers) at ∙ there in
        ap (λ found. run_used Sequential found (extents group begun)) here
        ∙ ap (λ (at : At). at.used)
        (heads_are group numbers begun fit (position_of group begun).index one here)
        ∙ used_of_position group begun e fit one here

-- the same is the position
position_same : (group : Group) → HasOwnNumbers group → 0 < length group.buffers
    → (begun : List ℕ) → All (FitsGroup group) begun
    → position_in group (course_at group begun) ≡ position_of group begun
position_same group numbers some begun fit =
    ap (λ (used : ℕ). record { index = (position_of group begun).index; used = used })
    (used_same group numbers some begun fit)

-- the same is picked
pick_same : (group : Group) → HasOwnNumbers group → 0 < length group.buffers → (begun : List ℕ)
    → All (FitsGroup group) begun → (size : ℕ)
    → pick_in group (course_at group begun) size ≡ pick_of group begun size
pick_same group numbers some begun fit size =
    ap (λ (at : Position). pick_at group.mode group.buffers at size)
    (position_same group numbers some begun fit)
    ∙ sym (picked_at group some begun size)

-- the same place is next
next_same : (group : Group) → HasOwnNumbers group → 0 < length group.buffers → (begun : List ℕ)
    → All (FitsGroup group) begun → (size : ℕ) → FitsGroup group size
    → place_next group (course_at group begun) size ≡ next_place group begun size
next_same group numbers some begun fit size fits =
    let pick : Pick = pick_of group begun size in
    let whose : (one : Buffer) × (slice_get group.buffers pick.index ≡ Some one) =
    whose_turn group.buffers pick.index (pick_within group begun size some) in
    ap
    (λ (one : Pick). place_in (slice_get group.buffers one.index) (extents group begun)
    one.fresh size)
    (pick_same group numbers some begun fit size)
    ∙ ap (λ found. place_in found (extents group begun) pick.fresh size) whose.1
    ∙ ap (λ (at : At). Some (placed_at whose.0 at pick.fresh size))
    (heads_are group numbers begun fit pick.index whose.0 whose.1)
    ∙ ap Some
    (place_same whose.0 (Own_head_of group pick.index whose.0 begun) pick.fresh size)
    ∙ sym (picked_place group begun fit size fits pick.index whose.0 refl whose.1)

-- the same position comes after it
past_same : (group : Group) → HasOwnNumbers group → 0 < length group.buffers → (begun : List ℕ)
    → All (FitsGroup group) begun → (size : ℕ)
    → position_past group.mode group.buffers (position_in group (course_at group begun))
    (pick_in group (course_at group begun) size) size
    ≡ position_of group (begun ++ size ∷ [])
past_same group numbers some begun fit size =
    ap
    (λ (at : Position). position_past group.mode group.buffers at
    (pick_in group (course_at group begun) size) size)
    (position_same group numbers some begun fit)
    ∙ ap
    (λ (pick : Pick). position_past group.mode group.buffers (position_of group begun) pick size)
    (pick_same group numbers some begun fit size)
    ∙ sym (position_push group some begun size)

-- so the courses are the same
pub course_is : (group : Group) → HasOwnNumbers group → 0 < length group.buffers
    → (sizes : List ℕ) → All (FitsGroup group) sizes
    → course_of group sizes ≡ course_at group sizes
course_is group numbers some =
    by_push (λ sizes. All (FitsGroup group) sizes → course_of group sizes ≡ course_at group sizes)
    (λ fit. first group.mode group.buffers)
    (λ begun size earlier fit.
    let parts : All (FitsGroup group) begun × FitsGroup group size =
    All-pop (FitsGroup group) (begun ++ size ∷ []) begun (Some size) refl fit in
    fold-append (course_next group) first_course begun (size ∷ [])
    ∙ ap (λ (course : Course). course_next group course size) (earlier parts.0)
    ∙ one_more begun size parts.0 parts.1)
  where
    first : (mode : Mode) (buffers : List Buffer)
        → first_course ≡ course_at (record { mode = mode; buffers = buffers }) []
    first Interleave buffers =
        ap (λ (turn : ℕ). record { turn = turn; articles = [] }) (sym (zero-mod (length buffers)))
    first Sequential buffers =
        ap (λ (turn : ℕ). record { turn = turn; articles = [] }) (sym (zero-mod (length buffers)))

    one_more : (begun : List ℕ) (size : ℕ) → All (FitsGroup group) begun → FitsGroup group size
        → course_next group (course_at group begun) size ≡ course_at group (begun ++ size ∷ [])
    one_more begun size fit fits =
        let index : ℕ = (pick_of group begun size).index in
        let whose : (one : Buffer) × (slice_get group.buffers index ≡ Some one) =
        whose_turn group.buffers index (pick_within group begun size some) in
        let place : Place =
        place_in_buffer whose.0 (Own_place_of group index whose.0 begun size) in
        let next : next_place group begun size ≡ Some place =
        picked_place group begun fit size fits index whose.0 refl whose.1 in
        ap (course_past group (course_at group begun) size)
        (next_same group numbers some begun fit size fits ∙ next)
        ∙ ap
        (λ (at : Position). record {
          turn = at.index;
          articles = extents group begun ++ record { place = place; size = size } ∷ [];
        })
        (past_same group numbers some begun fit size)
        ∙ ap
        (λ (list : List Extent). record {
          turn = (position_of group (begun ++ size ∷ [])).index;
          articles = list;
        })
        (sym (extents_push group begun size place next))
