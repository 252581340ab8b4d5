-- What a group picks, by what its code keeps.
use Rattle.std.proofs.Common.{◌≡◌, ◌∙◌, ℕ, ◌+◌, ◌≤◌, ◌<◌, nat_le, length, get_or, slice_get}
use Rattle.std.proofs.Common.{Option, None, Some, refl, sym, ap, arith, true, false, true≢false}
use Rattle.std.proofs.Common.{◌⊎◌, inl, inr}
use Rattle.std.specs.Prelude.{option_map, unwrap_or}
use Rattle.std.proofs.lemmas.Bool.{cases_Bool, cond-true, cond-false, leb-true, le-leb, lt-leb}
use Rattle.std.proofs.lemmas.List.{length-map}
use Rattle.std.proofs.lemmas.Option.{slice_get-map, unwrap_or-slice_get}
use Rattle.buffer_group.specs.Groups.{KeepsPlaces, position_view, blocks_in}
use Rattle.buffer_group.specs.declared.group.Group.{Group}
use Rattle.relay_conf.specs.Places.{mode_view}
use Rattle.relay_conf.specs.declared.cycbuff.Mode.TheVariants as modes
use Rattle.news_terms.specs.Courses.{Course, course_next, pick_in, position_in}
use Rattle.news_terms.specs.Picks as picks
use Rattle.news_terms.specs.Places as places
use Rattle.news_terms.specs.Places.{blocks_of}
use Rattle.news_terms.specs.Positions.{Position, pick_at, position_past, index_after}

module _ (code : Group) (group : places.Group) (begun : Course)
    (keeps : KeepsPlaces code group begun) where
  -- there are as many buffers
  pub same_count : length code.blocks.items ≡ length group.buffers
  same_count = ap length keeps.blocks ∙ length-map group.buffers (λ (b : places.Buffer). b.blocks)

  -- the buffer whose turn it is is one of them
  pub turn_there : begun.turn < length group.buffers
  turn_there =
      let inside : code.position < length code.blocks.items = code.within in
      omega (arith, inside, same_count, ap (λ (p : Position). p.index) keeps.position)

  -- the room of a buffer that may be there
  room_of_one : (found : Option places.Buffer)
      → blocks_of found ≡ unwrap_or (option_map (λ (b : places.Buffer). b.blocks) found) 0
  room_of_one None = refl
  room_of_one (Some buffer) = refl

  -- the room of a buffer is the code's
  room_here : (i : ℕ) → blocks_of (slice_get group.buffers i) ≡ get_or code.blocks.items i 0
  room_here i =
      room_of_one (slice_get group.buffers i)
      ∙ ap (λ o. unwrap_or o 0)
      (sym (slice_get-map (λ (b : places.Buffer). b.blocks) group.buffers i))
      ∙ unwrap_or-slice_get (blocks_in group.buffers) i 0
      ∙ ap (λ bs. get_or bs i 0) (sym keeps.blocks)

  -- how many blocks the current buffer has
  room_told : (room : ℕ) → slice_get code.blocks.items code.position ≡ Some room
      → blocks_of (slice_get group.buffers code.position) ≡ room
  room_told room there =
      room_here code.position
      ∙ sym (unwrap_or-slice_get code.blocks.items code.position 0)
      ∙ ap (λ o. unwrap_or o 0) there

  module _ (size : ℕ) (sequential : code.mode ≡ modes.Sequential) where
    -- the group fills one buffer after the other
    mode_is : group.mode ≡ places.Sequential
    mode_is = sym keeps.mode ∙ ap mode_view sequential

    -- what is picked, by what the code keeps
    picked_in_run : pick_in group begun size
        ≡ pick_at places.Sequential group.buffers (position_view code) size
    picked_in_run =
        ap (λ m. pick_at m group.buffers (position_in group begun) size) mode_is
        ∙ ap (λ p. pick_at places.Sequential group.buffers p size) keeps.position

    -- an article that fits the current run goes on in it
    pub fits_here : (room : ℕ) → slice_get code.blocks.items code.position ≡ Some room
        → code.used + size ≤ room
        → record { index = code.position; fresh = false } ≡ pick_in group begun size
    fits_here room there fits =
        let here = room_told room there in
        let blocks : ℕ = blocks_of (slice_get group.buffers code.position) in
        sym (picked_in_run
        ∙ cond-true _ _ _ (le-leb (code.used + size) blocks (omega (arith, fits, here))))

    -- one that doesn't fit goes to the front of the next buffer's
    pub goes_on : (room : ℕ) → slice_get code.blocks.items code.position ≡ Some room
        → room < code.used + size
        → record { index = index_after (length code.blocks.items) code.position; fresh = true }
        ≡ pick_in group begun size
    goes_on room there full =
        let here = room_told room there in
        let blocks : ℕ = blocks_of (slice_get group.buffers code.position) in
        ap (λ n. record { index = index_after n code.position; fresh = true }) same_count
        ∙ sym (picked_in_run
        ∙ cond-false _ _ _ (lt-leb (code.used + size) blocks (omega (arith, full, here))))

    -- where the pick isn't fresh, the article fits the current run, and the position stays in it
    pub stays_here : position_in group (course_next group begun size)
        ≡ position_past group.mode group.buffers (position_in group begun)
        (pick_in group begun size) size
        → (pick_in group begun size).fresh ≡ false
        → (code.used + size ≤ get_or code.blocks.items code.position 0)
        × (position_in group (course_next group begun size)
        ≡ record { index = code.position; used = code.used + size })
    stays_here moves plain =
        by_test
        (cases_Bool
        (nat_le (code.used + size) (blocks_of (slice_get group.buffers code.position))))
      where
        by_test : (nat_le (code.used + size) (blocks_of (slice_get group.buffers code.position))
            ≡ true)
            ⊎ (nat_le (code.used + size) (blocks_of (slice_get group.buffers code.position))
            ≡ false)
            → (code.used + size ≤ get_or code.blocks.items code.position 0)
            × (position_in group (course_next group begun size)
            ≡ record { index = code.position; used = code.used + size })
        by_test (inl ends) =
            let within : code.used + size ≤ blocks_of (slice_get group.buffers code.position) =
            leb-true _ _ ends in
            let room : blocks_of (slice_get group.buffers code.position)
            ≡ get_or code.blocks.items code.position 0 =
            room_here code.position in (
              omega arith,
              moves
                  ∙ ap
                  (λ m. position_past m group.buffers (position_in group begun)
                  (pick_in group begun size) size)
                  mode_is
                  ∙ ap
                  (λ p. position_past places.Sequential group.buffers p
                  (pick_in group begun size) size)
                  keeps.position
                  ∙ ap
                  (λ k. position_past places.Sequential group.buffers (position_view code) k size)
                  (picked_in_run ∙ cond-true _ _ _ ends),
            )
        by_test (inr full) =
            absurd (true≢false (sym (ap (λ (k : picks.Pick). k.fresh)
            (picked_in_run ∙ cond-false _ _ _ full)) ∙ plain))
