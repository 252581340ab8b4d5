-- A begin, in what the buffer set keeps, by what the code finds on its way: the group, its pick
-- with the number, and the buffer.
use Rattle.std.proofs.Common.{◌≡◌, ◌∙◌, ℕ, ◌<◌, ◌≤◌, nat_lt, Bool, false, refl, sym, ap, arith}
use Rattle.std.proofs.Common.{length, map, subst, true, List, [], ◌∷◌, Option, None, Some, All}
use Rattle.std.proofs.Common.{slice_get, length-set, option_map, slice_set}
use Rattle.std.proofs.lemmas.Bool.{false≢true, ltb-false}
use Rattle.std.proofs.lemmas.Bool.Decides.{nat_tests}
use Rattle.std.proofs.lemmas.List.Elements.{All-append, All-cons, All-nil}
use Rattle.std.proofs.lemmas.List.{set-get_or}
use Rattle.std.proofs.lemmas.Option.{get_or_from_slice_get, none-some, same_Some, slice_get-map}
use Rattle.std.proofs.lemmas.Option.{slice_get_within}
use Rattle.std.specs.Prelude.{option_and_then}
use Rattle.std.specs.Vec.{with_item}
use Rattle.buffer_group.specs.Groups.{KeepsPlaces, pick_view}
use Rattle.buffer_group.specs.declared.group.Group as groups
use Rattle.cyc_block.specs.declared.store.BlockStore.{Ghosts}
use Rattle.cyc_buffer.specs.Agreement as buffers
use Rattle.cyc_buffer.specs.Agreement.{Agrees, Follows, store_of, buffer_state_of}
use Rattle.cyc_buffer.specs.Answers.{refusal}
use Rattle.cyc_buffer.specs.Crash.{IsLeftOf}
use Rattle.cyc_buffer.specs.History as histories
use Rattle.cyc_buffer.specs.History.{History, Article, asked, finished_at, is_at, next_cycle}
use Rattle.cyc_buffer.specs.History.{open_token, with_begin}
use Rattle.cyc_buffer.specs.declared.answers.BufError.{BufError}
use Rattle.cyc_buffer.specs.declared.buffer.Buffer.{Buffer}
use Rattle.cyc_buffer.specs.declared.buffer_state.Open.{Open}
use Rattle.cyc_token.specs.Token.{token_view}
use Rattle.news_terms.proofs.BufferArticles.{next_in}
use Rattle.news_terms.proofs.CourseLaws.{articles_next, next_laid, next_some, pick_within}
use Rattle.news_terms.specs.Courses.{Course, IsLaid, course_next, pick_in, place_next}
use Rattle.news_terms.specs.Fronts.{FitsGroup, HasOwnNumbers}
use Rattle.news_terms.specs.Picks as picks
use Rattle.news_terms.specs.Places as places
use Rattle.news_terms.specs.Places.{Extent, Group, IsLive, Place, last_cycle, on_line}
use Rattle.news_terms.specs.Places.{place_in_buffer, size_of}
use Rattle.news_terms.specs.Settings.{IsBufferAt}
use Rattle.news_terms.specs.Token.{Token}
use Rattle.news_terms.proofs.ListPlaces.{holds_at, there_within}
use Rattle.relay_model.specs.State.{Kept}
use Rattle.relay_model.specs.Terms.{Terms}
use Rattle.block_shelf.proofs.BegunHistories.{begun_more, begun_texts, courses_after, more_here}
use Rattle.block_shelf.proofs.BegunHistories.{more_there, other_begins, own_numbers, picked_begins}
use Rattle.block_shelf.proofs.Shelving.{KeptAt, buffers_kept, groups_kept, kept_at, only_there}
use Rattle.block_shelf.proofs.Shelving.{opened_after, past_last, put_both, replaced, same_stays}
use Rattle.block_shelf.proofs.Shelving.{stands, still, with_buffer}
use Rattle.block_shelf.proofs.Writings.{is_free, just_begun, untouched, writing_here}
use Rattle.block_shelf.specs.Calls.{BegunAs, CanBegin, KeepsAll, place_in, token_at}
use Rattle.block_shelf.specs.Keeping.{KeepsTexts, KeepsPlacedGroup}
use Rattle.block_shelf.specs.Openings.{Opening, IsOpen}
use Rattle.block_shelf.specs.Picking.{IsPicked}
use Rattle.block_shelf.specs.Starting.{PlacedGroupsKeep}
use Rattle.block_shelf.specs.declared.buffer_set.PlacedGroup.{PlacedGroup}
use Rattle.block_shelf.specs.declared.buffer_set.BufferSet.{BufferSet}
use Rattle.block_shelf.specs.declared.picking.Place as code_places
use Rattle.block_shelf.specs.Leaving.{Trust}

-- WHERE NOTHING IS BEGUN

-- a buffer with the same register over the same store agrees with the same histories
pub same_agrees : {S : Type 0} {g : Ghosts S} {code code' : Buffer S g}
    → buffer_state_of code' ≡ buffer_state_of code → store_of code' ≡ store_of code
    → Follows (λ h. h) code code'
same_agrees same_buffer_state same_store t each agrees = grind arith

-- what was read at a place and is put back there changes nothing
set_same : {X : Type 0} (xs : List X) (i : ℕ) {x : X} → slice_get xs i ≡ Some x
    → slice_set xs i x ≡ xs
set_same xs i {x} is =
    ap (slice_set xs i) (sym (get_or_from_slice_get xs i x x is)) ∙ set-get_or xs i x

module _ {S : Type 0} {g : Ghosts S} (old : BufferSet S g) (i : ℕ) {placed_group : PlacedGroup}
    (found : slice_get old.placed_groups.items i ≡ Some placed_group) where
  -- a group that was looked at and put back is where it was
  pub same_groups : {w : Terms} {begun : ℕ → Course}
      → PlacedGroupsKeep old.placed_groups.items w begun
      → PlacedGroupsKeep (slice_set old.placed_groups.items i placed_group) w begun
  same_groups keep = rw (set_same old.placed_groups.items i found) keep

  -- a group that was looked at and put back: all is kept
  pub keeps_placed_group : KeepsAll old
      (record { buffers = old.buffers; placed_groups = with_item old.placed_groups i placed_group })
  keeps_placed_group = λ trusted w begun kept openings failures keeps.
      assumption (same_groups (groups_kept keeps))

  -- so is a buffer with the same register over the same store
  pub keeps_all : (number : ℕ) {code : Buffer S g} (code' : Buffer S g)
      → slice_get old.buffers.items number ≡ Some code
      → buffer_state_of code' ≡ buffer_state_of code → store_of code' ≡ store_of code
      → KeepsAll old
      (with_buffer old number code' (with_item old.placed_groups i placed_group))
  keeps_all number code' there same_buffer_state same_store =
      λ trusted w begun kept openings failures keeps.
      let at = kept_at (buffers_kept keeps) there in
      still keeps at (same_agrees same_buffer_state same_store) (same_stays same_store)
      (at.failed ∙ ap g.failures (sym same_store)) (λ n apart. refl)
      (same_groups (groups_kept keeps))

-- WHERE IT IS

-- where the article has room and no write is open, a begin is refused for its cycle
worn : (h : History) (octets : ℕ) (fresh : Bool) → size_of octets ≤ h.buffer.blocks
    → h.writing ≡ None
    → ((e : BufError) → Some e ≡ refusal h octets fresh
    → last_cycle < next_cycle h fresh (size_of octets))
    × (None ≡ refusal h octets fresh → next_cycle h fresh (size_of octets) ≤ last_cycle)
worn h octets fresh room free = (λ e is. grind (arith, nat_tests), λ is. grind (arith, nat_tests))

module _ {S : Type 0} {g : Ghosts S} {trusted : Trust} {old : BufferSet S g} {w : Terms}
    {begun : ℕ → Course} {kept : List Kept} {openings : ℕ → Option Opening} {failures : ℕ → ℕ}
    (keeps : KeepsTexts trusted old w begun kept openings failures) {h : ℕ} (class octets : ℕ)
    (can : CanBegin w h (size_of octets) openings) {i : ℕ} (is : i ≡ h) where
  abbrev size : ℕ
  size = size_of octets

  -- the number of a buffer
  abbrev number_of : places.Buffer → ℕ
  number_of buffer = buffer.number

  -- what the group picks
  abbrev pick : picks.Pick
  pick = pick_in can.group (begun h) size

  -- the group's course is laid
  laid_here : IsLaid can.group (begun h)
  laid_here = keeps.laid h can.group can.there

  -- it has a buffer
  some_here : 0 < length can.group.buffers
  some_here =
      holds_at (λ (one : Group). 1 ≤ length one.buffers) w.groups keeps.sound.filled h can.group
      can.there

  -- its buffers have numbers of their own
  numbers_here : HasOwnNumbers can.group
  numbers_here = own_numbers keeps.sound h can.group can.there

  -- the group's buffer that is picked
  target : (b : places.Buffer) × (slice_get can.group.buffers pick.index ≡ Some b)
  target =
      there_within can.group.buffers pick.index
      (pick_within can.group (begun h) laid_here some_here size)

  -- the code's group is there
  pub group_found : false ≡ nat_lt i (length old.placed_groups.items) → ⊥
  group_found missing =
      omega (
        arith,
        ltb-false i _ (sym missing),
        slice_get_within w.groups h can.group can.there,
        keeps.placed_group_count,
        is,
      )

  module _ {placed_group : PlacedGroup}
      (found : slice_get old.placed_groups.items i ≡ Some placed_group) where
    -- it keeps what is said of it
    has_group : KeepsPlacedGroup placed_group can.group (begun h)
    has_group =
        let had = keeps.placed_groups h can.group can.there in
        rw (same_Some had.code placed_group
        (sym had.there ∙ ap (slice_get old.placed_groups.items) (sym is) ∙ found)) at had.keeps

    -- so there is a place for the article
    pub has_place : ((group : Group) (course : Course) → KeepsPlacedGroup placed_group group course
        → ⊥) → ⊥
    has_place none = none can.group (begun h) has_group

    module _ {to : code_places.Place}
        (picks_as : (group : Group) (course : Course) → KeepsPlacedGroup placed_group group course
        → IsPicked group course size to) where
      is_picked : IsPicked can.group (begun h) size to
      is_picked = picks_as can.group (begun h) has_group

      -- so it picks what the group picks
      picks_it : pick_view to.pick ≡ pick
      picks_it = is_picked.picked

      -- the buffer of this number is there
      stands_there : slice_get w.buffers to.number ≡ Some target.0
      stands_there =
          let there : slice_get can.group.buffers to.pick.buffer ≡ Some target.0 =
          ap (λ (p : picks.Pick). slice_get can.group.buffers p.index) picks_it ∙ target.1 in
          let number : target.0.number ≡ to.number =
          same_Some target.0.number to.number
          (sym (slice_get-map number_of can.group.buffers to.pick.buffer
          ∙ ap (option_map number_of) there) ∙ is_picked.numbered) in
          ap (slice_get w.buffers) (sym number)
          ∙ stands (buffers_kept keeps)
          (record { group = can.group; is_group = can.there; is_buffer = target.1 })

      -- the buffer that was picked is one of the buffer set's
      pub has_buffer : false ≡ nat_lt to.number (length old.buffers.items) → ⊥
      has_buffer missing =
          none-some _ (sym (past_last (buffers_kept keeps) to.number missing) ∙ stands_there)

      module _ {code : Buffer S g} (there : slice_get old.buffers.items to.number ≡ Some code) where
        at : KeptAt trusted w begun kept openings failures to.number code
        at = kept_at (buffers_kept keeps) there

        -- its history
        abbrev now : History
        now = at.now

        -- where the article goes
        abbrev goes_to : Place
        goes_to = place_in_buffer now.buffer (histories.next_place now pick.fresh size)

        here : slice_get can.group.buffers pick.index ≡ Some now.buffer
        here = target.1 ∙ sym stands_there ∙ at.there

        now_at : IsBufferAt w.groups h pick.index now.buffer
        now_at = record { group = can.group; is_group = can.there; is_buffer = here }

        goes_there : place_in w h (begun h) size ≡ Some goes_to
        goes_there =
            ap (option_and_then (λ (one : Group). place_next one (begun h) size)) can.there
            ∙ next_in can.group (begun h) size now.buffer (map asked now.begins) here
            (at.said.begins.picked h pick.index can.group can.there here)

        -- a begin is refused for its cycle alone
        in_time : ((e : BufError) → Some e ≡ refusal now octets pick.fresh
            → last_cycle < goes_to.cycle)
            × (None ≡ refusal now octets pick.fresh → goes_to.cycle ≤ last_cycle)
        in_time =
            worn now octets pick.fresh (can.fits.room pick.index now.buffer here)
            (is_free openings h can.free (only_there keeps now_at) at.said.writing)

        fresh_is : pick.fresh ≡ to.pick.fresh
        fresh_is = ap (λ (p : picks.Pick). p.fresh) (sym picks_it)

        -- a begin that the buffer refuses
        pub not_begun : (code' : Buffer S g) (e : BufError)
            → buffer_state_of code' ≡ buffer_state_of code → store_of code' ≡ store_of code
            → ((t : Bool) (each : History) → Agrees t code each
            → Some e ≡ refusal each octets to.pick.fresh)
            → (one : Place) × (place_in w h (begun h) size ≡ Some one)
            × BegunAs trusted w h class octets begun kept openings failures one None
            (with_buffer old to.number code' (with_item old.placed_groups i placed_group))
        not_begun code' e same_buffer_state same_store refuses = (
          goes_to,
          goes_there,
          (
            in_time.0 e (rw fresh_is (refuses trusted.honest now at.agrees)),
            keeps_all old i found to.number code' there same_buffer_state same_store trusted w begun
                kept openings failures keeps,
          ),
        )

        -- a begin that it takes
        module _ {code' : Buffer S g} (write : Open) {moved : groups.Group}
            (same_store : store_of code' ≡ store_of code)
            (moves : KeepsPlaces placed_group.group can.group (begun h) → pick_view to.pick ≡ pick
            → KeepsPlaces moved can.group (course_next can.group (begun h) size))
            (takes : (t : Bool) (each : History) → Agrees t code each
            → None ≡ refusal each octets to.pick.fresh)
            (follows : (t : Bool) (each : History) → Agrees t code each
            → Agrees t code' (with_begin class octets to.pick.fresh each))
            (named : (t : Bool) (each : History) → Agrees t code each
            → Some (token_view (buffers.token_of write))
            ≡ open_token (with_begin class octets to.pick.fresh each))
            (leaves : (each : History) (saved later : Token → Bool) → Agrees true code each
            → IsLeftOf each saved (g.blocks (store_of code))
            → ((t : Token) → later t ≡ true → (saved t ≡ true)
            × IsLive each.buffer.blocks
            (histories.front_of (with_begin class octets to.pick.fresh each))
            (on_line each.buffer.blocks t.cycle t.first))
            → IsLeftOf (with_begin class octets to.pick.fresh each) later
            (g.blocks (store_of code'))) where
          -- the token of the open write
          abbrev token : Token
          token = token_view (buffers.token_of write)

          token_is : token ≡ token_at class octets goes_to
          token_is = same_Some token _ (rw fresh_is (named trusted.honest now at.agrees))

          named_here : token.buffer ≡ now.buffer.number
          named_here = ap (λ (t : Token). t.buffer) token_is

          -- the groups after it
          groups_after : PlacedGroupsKeep
              (slice_set old.placed_groups.items i
              (record { group = moved; numbers = placed_group.numbers }))
              w (begun_more w.groups begun h size)
          groups_after = record {
            count = length-set old.placed_groups.items i _ ∙ keeps.placed_group_count;
            each = λ k each at_group.
                let had = keeps.placed_groups k each at_group in
                let now = put_both
                (λ one. KeepsPlacedGroup one each (begun_more w.groups begun h size k))
                old.placed_groups.items i k
                (record { group = moved; numbers = placed_group.numbers }) had.there
                (λ same.
                rw (
                  more_here w.groups begun h size can.there k (same ∙ is),
                  same_Some each can.group
                      (sym at_group ∙ ap (slice_get w.groups) (same ∙ is) ∙ can.there),
                )
                (record {
                  position = moves has_group.position picks_it;
                  numbers = has_group.numbers;
                }))
                (λ apart.
                rw (more_there w.groups begun h size k (λ e. apart (e ∙ sym is))) had.keeps) in
                record { code = now.0; there = now.1; keeps = now.2 };
          }

          -- each article fits, the new one too
          fit_after : (k : ℕ) (each : Group) → slice_get w.groups k ≡ Some each
              → All (λ (one : Extent). FitsGroup each one.size)
              (begun_more w.groups begun h size k).articles
          fit_after =
              let next = next_some can.group (begun h) laid_here some_here size in
              let Fits : Group → Extent → Type 0 = λ group one. FitsGroup group one.size in
              let one : Extent = record { place = next.0; size = size } in
              courses_after w.groups begun h size can.there
              (λ group course. All (Fits group) course.articles)
              (rw (articles_next can.group (begun h) size next.0 next.1)
              (All-append (Fits can.group) (begun h).articles (one ∷ [])
              (keeps.fit h can.group can.there)
              (All-cons (Fits can.group) one [] can.fits (All-nil (Fits can.group)))))
              keeps.fit

          -- the courses are laid, the new one too
          laid_after : (k : ℕ) (each : Group) → slice_get w.groups k ≡ Some each
              → IsLaid each (begun_more w.groups begun h size k)
          laid_after =
              courses_after w.groups begun h size can.there IsLaid
              (next_laid can.group (begun h) size numbers_here laid_here can.fits) keeps.laid

          -- the article is begun, at the place that its group picked
          pub is_begun : (one : Place) × (place_in w h (begun h) size ≡ Some one)
              × BegunAs trusted w h class octets begun kept openings failures one
              (Some (record { «open» = write }))
              (with_buffer old to.number code' (with_item old.placed_groups i
              (record { group = moved; numbers = placed_group.numbers })))
          is_begun = (
            goes_to,
            goes_there,
            (
              in_time.1 (rw fresh_is (takes trusted.honest now at.agrees)),
              token_is,
              λ text long. replaced keeps at (record {
                history = with_begin class octets pick.fresh now;
                same = refl;
                agrees = rw fresh_is (follows trusted.honest now at.agrees);
                said = record {
                  begins = picked_begins h class octets can.there at.said.begins here
                      (λ k j at_group.
                      keeps.sound.once k h j pick.index now.buffer now.buffer at_group now_at
                      refl);
                  texts = begun_texts kept now class octets pick.fresh at.agrees.keeps.sizes
                      at.said.texts;
                  stored = at.said.stored;
                  writing = writing_here openings h (just_begun now text token_is);
                };
                failed = ap failures at.number ∙ at.failed ∙ ap g.failures (sym same_store);
                left = λ sure yes none.
                    rw fresh_is
                    (leaves now (λ t. false) (λ t. false)
                    (subst (λ b. Agrees b code now) sure at.agrees)
                    (at.left sure yes (ap g.failures (sym same_store) ∙ none))
                    (λ t never. absurd (false≢true never)));
                others = untouched (record {
                  was = λ other e. cc can.free;
                  now = λ other e. cc named_here;
                  begins = λ other apart has.
                      other_begins h class octets can.there has numbers_here (λ picked.
                      apart (ap (λ (b : places.Buffer). b.number)
                      (same_Some other.buffer now.buffer (sym picked ∙ here))));
                  texts = λ t apart. refl;
                  stored = λ buffer apart. refl;
                });
                unfailed = λ n apart. refl;
                fit = fit_after;
                laid = laid_after;
                opened = opened_after keeps (λ other e.
                    rw (← same_Some (IsOpen token text 0) other e) (record {
                      index = pick.index;
                      buffer = now.buffer;
                      is_at = now_at;
                      named = sym named_here;
                      whole = long ∙ ap (λ (t : Token). t.length) (sym token_is);
                    }));
                groups = groups_after;
              }),
            ),
          )
