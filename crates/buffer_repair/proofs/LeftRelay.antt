-- What is left of all buffers, as a relay's: the courses that its groups are found on are laid, and
-- what the relay's state says of each buffer is the history that it is found again with.
use Rattle.std.proofs.Common.{◌≡◌, ◌∙◌, ℕ, ◌^◌, ◌<◌, ◌≤◌, ◌==◌, inl, inr, refl}
use Rattle.std.proofs.Common.{sym, ap, subst, arith, List, [], ◌∷◌, length, map, All, None, Some}
use Rattle.std.proofs.Common.{slice_get, count_by, option_map}
use Rattle.std.proofs.lemmas.Bool.{cases_lt, eq-eqb, eqb-true}
use Rattle.std.proofs.lemmas.List.Elements.{All-contains, All-weaker}
use Rattle.std.specs.List.{AllByRecursion}
use Rattle.std.proofs.lemmas.Option.{none-some, same_Some, slice_get_within}
use Rattle.block_shelf.proofs.BegunHistories.{own_numbers}
use Rattle.block_shelf.proofs.Reported.{fronts_agree}
use Rattle.block_shelf.specs.Histories.{HasBegins, HasTexts, IsFree, IsHistoryOf}
use Rattle.cyc_buffer.proofs.FoundHistories.{found_counted, found_told}
use Rattle.cyc_buffer.proofs.FoundTexts.{whole_length}
use Rattle.cyc_buffer.specs.BufferState.{IsSized}
use Rattle.cyc_buffer.specs.Crash.{CountsFound, IsFrontOn, ListsFound, Tells}
use Rattle.cyc_buffer.specs.History.{Begin, asked, cycle_of, front_of, stored_count}
use Rattle.cyc_buffer.specs.Stopped.{used_of}
use Rattle.cyc_token.specs.Token.{token_view}
use Rattle.cyc_token.specs.declared.Token as codes
use Rattle.news_terms.proofs.ListPlaces.{holds_at, there_within}
use Rattle.news_terms.specs.Courses.{Course, IsLaid}
use Rattle.news_terms.specs.Fronts.{FitsGroup}
use Rattle.news_terms.specs.Places.{Buffer, Extent, Group, size_of}
use Rattle.news_terms.specs.Settings.{AreSound, IsSoundBuffer}
use Rattle.news_terms.specs.Token.{Token}
use Rattle.relay_facts.proofs.NamedBuffers.{only_found}
use Rattle.relay_model.specs.Counted.{IsInTime}
use Rattle.relay_model.specs.Fetches as fetches
use Rattle.relay_model.specs.Fetches.{is_at}
use Rattle.relay_model.specs.Figures.{is_kept_in}
use Rattle.relay_model.specs.OnRecord.{IsBelow}
use Rattle.relay_model.specs.State.{Kept, State, empty_state}
use Rattle.relay_model.specs.Terms.{Terms}
use Rattle.buffer_repair.proofs.AllTexts.{AllApart, AllOwn, count_own, each_text, found_own}
use Rattle.buffer_repair.proofs.AllTexts.{none_count, none_found, texts_own}
use Rattle.buffer_repair.proofs.LeftBegins.{each_begin, none_begun}
use Rattle.buffer_repair.proofs.LeftCourses.{AllStand, AreNumbered, order_in, own_in}
use Rattle.buffer_repair.proofs.LeftCourses.{each_in, sizes_in, within_in}
use Rattle.buffer_repair.proofs.LeftExtents.{own_cycles}
use Rattle.buffer_repair.proofs.LeftTexts.{all_counted, at_place, one_at_most, own_number, own_text}
use Rattle.buffer_repair.specs.Keeping.{AreOnRecord, IsLiveText}
use Rattle.buffer_repair.specs.Remains.{AreOfGroups, AreTurns, Remains, all_texts_left}
use Rattle.buffer_repair.specs.Remains.{courses_left, extents_at, extents_left}
use Rattle.buffer_repair.specs.Remains.{history_left, texts_left}

-- this is left of a buffer: the front is the one that its device tells, and the tokens are those of
-- what is found
pub record IsLeft (r : Remains) (buffer : Buffer) : Type 0 where
  pub same : r.buffer ≡ buffer
  pub some : 1 ≤ r.buffer.blocks
  pub most : r.buffer.blocks < 2 ^ 32
  pub since : r.buffer.first_cycle < 2 ^ 32
  pub count : length r.blocks ≡ r.buffer.blocks
  pub front : IsFrontOn r.buffer r.blocks r.cycle r.used
  pub lists : (cycle used : ℕ) → IsFrontOn r.buffer r.blocks cycle used
      → ListsFound r.buffer r.blocks cycle used r.tokens

module _ {r : Remains} {buffer : Buffer} (is : IsLeft r buffer) where
  -- by its own front
  pub lists_own : ListsFound r.buffer r.blocks r.cycle r.used r.tokens
  lists_own = is.lists r.cycle r.used is.front

  -- the device tells its history
  pub left_told : Tells r.blocks (history_left r)
  left_told =
      found_told r.buffer r.blocks r.cycle r.used r.tokens is.some is.front lists_own is.count
      is.since is.most

  -- which counts so
  pub left_counted : CountsFound (history_left r) r.tokens
  left_counted =
      found_counted r.buffer r.blocks r.cycle r.used r.tokens is.some is.front lists_own

-- this is left at the place of a buffer
pub record IsLeftAt (all : List Remains) (b : ℕ) (buffer : Buffer) : Type 0 where
  pub left : Remains
  pub there : slice_get all b ≡ Some left
  pub is_left : IsLeft left buffer

module _ (w : Terms) (all : List Remains) (sound : AreSound w.buffers w.groups)
    (numbered : (b : ℕ) (buffer : Buffer) → slice_get w.buffers b ≡ Some buffer
    → buffer.number ≡ b)
    (count : length all ≡ length w.buffers)
    (left : (b : ℕ) (buffer : Buffer) → slice_get w.buffers b ≡ Some buffer
    → IsLeftAt all b buffer)
    (of_groups : AreOfGroups w.groups all) (ids : Token → List ℕ) (turns : ℕ → ℕ)
    (are_turns : AreTurns w.groups turns) where
  -- the courses and the texts
  abbrev courses : ℕ → Course
  courses = courses_left w.groups turns all

  abbrev texts : List Kept
  texts = all_texts_left ids all

  -- what is left at a place, with its buffer
  record Found (b : ℕ) (r : Remains) : Type 0 where
    buffer : Buffer
    there : slice_get w.buffers b ≡ Some buffer
    is_left : IsLeft r buffer
    number : r.buffer.number ≡ b

  found_at : (b : ℕ) (r : Remains) → slice_get all b ≡ Some r → Found b r
  found_at b r at =
      let one = there_within w.buffers b (omega (arith, slice_get_within all b r at, count)) in
      let had = left b one.0 one.1 in
      let same : had.left ≡ r = same_Some had.left r (sym had.there ∙ at) in
      let is : IsLeft r one.0 = subst (λ x. IsLeft x one.0) same had.is_left in
      record {
        buffer = one.0;
        there = one.1;
        is_left = is;
        number = ap (λ (x : Buffer). x.number) is.same ∙ numbered b one.0 one.1;
      }

  -- what is left of each buffer of a group stands at its number
  stand : (g : ℕ) (group : Group) → slice_get w.groups g ≡ Some group
      → AllStand all group.buffers
  stand g group at i buffer is =
      let k = sound.named g i buffer (record { group = group; is_group = at; is_buffer = is }) in
      let had = left k.0 buffer k.1 in
      record {
        left = had.left;
        there = ap (slice_get all) (numbered k.0 buffer k.1) ∙ had.there;
        same = had.is_left.same;
        sized = (left_told had.is_left).sizes;
      }

  -- they have numbers of their own
  own : (g : ℕ) (group : Group) → slice_get w.groups g ≡ Some group → AreNumbered group.buffers
  own g group at = (own_numbers sound g group at).own

  -- a group's buffers have room for a block
  fits_one : (g : ℕ) (group : Group) → slice_get w.groups g ≡ Some group → FitsGroup group 1
  fits_one g group at = record {
    room = λ i buffer is.
        let k = sound.named g i buffer
        (record { group = group; is_group = at; is_buffer = is }) in
        (holds_at IsSoundBuffer w.buffers sound.buffers k.0 buffer k.1).some;
  }

  -- each article that was begun fits the buffers of its group
  pub left_fit : (g : ℕ) (group : Group) → slice_get w.groups g ≡ Some group
      → All (λ (one : Extent). FitsGroup group one.size) (courses g).articles
  left_fit g group at =
      rw at (sizes_in all (FitsGroup group) group.buffers (stand g group at)
      (λ i b r at_b there same. each_begin (λ (begin : Begin). FitsGroup group begin.size)
      (fits_one g group at) r.buffer r.blocks 0 _ [] r.tokens
      (λ t c. All-contains (λ (u : codes.Token). FitsGroup group (size_of u.length)) r.tokens t
      (of_groups.fit b.number g i r group there at (at_b ∙ ap Some (sym same))) c)
      tt))

  -- each group's course is laid
  pub left_laid : (g : ℕ) (group : Group) → slice_get w.groups g ≡ Some group
      → IsLaid group (courses g)
  left_laid g group at =
      rw at (record {
        turn = are_turns g group at;
        within = within_in all group group.buffers (stand g group at) (λ i b is. (i, is));
        order = order_in all [] group.buffers (stand g group at) (own g group at)
            (λ i b is. refl);
      })

  -- what is left of a buffer stands at its number
  at_number : (b : ℕ) (r : Remains) → slice_get all b ≡ Some r
      → slice_get all r.buffer.number ≡ Some r
  at_number b r at = ap (slice_get all) (found_at b r at).number ∙ at

  -- the begins of its history are its group's articles in it
  left_begins : (b : ℕ) (r : Remains) → slice_get all b ≡ Some r
      → HasBegins w.groups courses (history_left r)
  left_begins b r at = record {
    picked = λ g i group is_group is_buffer. rw is_group
        (sym (own_in all group.buffers (stand g group is_group) (own g group is_group) i r.buffer
        is_buffer
        ∙ ap extents_at (at_number b r at)));
    none = λ nobody. none_begun r (of_groups.unused b r at nobody)
        (lists_own (found_at b r at).is_left);
  }

  -- each buffer's texts are its own
  all_own : AllOwn ids all
  all_own b r at =
      let f = (found_at b r at).is_left in
      texts_own ids r.blocks r.buffer.number r.tokens
      (λ t c. own_number ids r f.some f.front (lists_own f) t c)

  all_apart : AllApart all
  all_apart i j a b at_a at_b same =
      sym (found_at i a at_a).number ∙ same ∙ (found_at j b at_b).number

  -- what is found under its tokens was finished there
  left_texts : (b : ℕ) (r : Remains) → slice_get all b ≡ Some r → HasTexts texts (history_left r)
  left_texts b r at token here =
      let f = (found_at b r at).is_left in
      own_text ids r f.some f.front (lists_own f) token here
      ∙ sym (found_own ids all all_own all_apart b r at token here)

  -- as many as are found in it
  left_stored : (b : ℕ) (r : Remains) → slice_get all b ≡ Some r
      → stored_count (history_left r).begins ≡ count_by (is_kept_in r.buffer) texts
  left_stored b r at =
      let f = (found_at b r at).is_left in
      (left_counted f).stored
      ∙ sym (count_own ids all all_own all_apart b r at (is_kept_in r.buffer)
      (λ one e. eqb-true one.token.buffer r.buffer.number e)
      ∙ all_counted ids r.blocks (is_kept_in r.buffer) r.tokens
      (λ t c. eq-eqb t.buffer r.buffer.number
      (own_number ids r f.some f.front (lists_own f) t c)))

  -- so its history is what the relay's state says of it
  pub left_said : (b : ℕ) (r : Remains) → slice_get all b ≡ Some r
      → IsHistoryOf w.groups courses texts (λ h. None) (history_left r)
  left_said b r at = record {
    begins = left_begins b r at;
    texts = left_texts b r at;
    stored = left_stored b r at;
    writing = IsFree refl (λ g one e. absurd (none-some one e));
  }

  -- a state on these courses
  abbrev state : State
  state = record empty_state { begun = courses }

  -- each text that is found is live
  pub left_live : All (IsLiveText w courses) texts
  left_live = each_text ids (IsLiveText w courses) all (λ b r t at c.
      let f = found_at b r at in
      let told = left_told f.is_left in
      let again = (f.is_left.lists (cycle_of (history_left r)) (used_of (history_left r))
      told.front).all t in
      let live = told.found (token_view t) (again.0 c) in
      let there : slice_get w.buffers b ≡ Some r.buffer =
      f.there ∙ ap Some (sym f.is_left.same) in
      let number = own_number ids r f.is_left.some f.is_left.front (lists_own f.is_left) t c in
      record {
        buffer = r.buffer;
        there = ap (slice_get w.buffers) (number ∙ f.number) ∙ there;
        unpassed = rw (← fronts_agree w state (history_left r) sound left_laid numbered b there
            (left_begins b r at)) live.live.here;
      })

  -- at a place lies one at most
  pub left_places : (buffer cycle first : ℕ) → count_by (is_at buffer cycle first) texts ≤ 1
  left_places buffer cycle first = elim (cases_lt buffer (length all)) [
    | inl within ↦
        let one = there_within all buffer within in
        let f = found_at buffer one.0 one.1 in
        omega (
          arith,
          count_own ids all all_own all_apart buffer one.0 one.1 (is_at buffer cycle first)
              (λ each e. (at_place buffer cycle first each e).0 ∙ sym f.number),
          one_at_most ids one.0.blocks buffer cycle first one.0.buffer.blocks 0 one.0.tokens
              (lists_own f.is_left).rising,
        )
    | inr past ↦ omega (
      arith,
      none_count ids all all_own buffer (is_at buffer cycle first)
          (λ each e. (at_place buffer cycle first each e).0)
          (λ i r at e. omega (
            arith,
            past,
            slice_get_within all i r at,
            (found_at i r at).number,
            e,
          )),
    )
  ]

  -- its front is the one that its history has
  pub left_front : (b : ℕ) (r : Remains) → slice_get all b ≡ Some r
      → front_of (history_left r) ≡ fetches.front_of w state r.buffer
  left_front b r at =
      let f = found_at b r at in
      fronts_agree w state (history_left r) sound left_laid numbered b
      (f.there ∙ ap Some (sym f.is_left.same)) (left_begins b r at)

  -- under a token of a buffer what is left there is found
  pub left_under : (b : ℕ) (r : Remains) → slice_get all b ≡ Some r → (t : Token)
      → t.buffer ≡ r.buffer.number
      → fetches.text_under texts t ≡ fetches.text_under (texts_left ids r) t
  left_under b r at t here = found_own ids all all_own all_apart b r at t here

  -- and under one of none nothing is
  pub left_nowhere : (t : Token) → length all ≤ t.buffer → fetches.text_under texts t ≡ None
  left_nowhere t past = ap (option_map (λ (one : Kept). one.text))
      (none_found ids all all_own t (λ i r at e. omega (
        arith,
        past,
        slice_get_within all i r at,
        (found_at i r at).number,
        e,
      )))

  -- each article that was begun has a block at least
  left_sizes : (g : ℕ) (group : Group) → slice_get w.groups g ≡ Some group
      → All (λ (one : Extent). 1 ≤ one.size) (courses g).articles
  left_sizes g group at =
      rw at (sizes_in all (λ n. 1 ≤ n) group.buffers (stand g group at)
      (λ i b r at_b there same.
      each_some r.buffer.blocks (history_left r).begins
      (left_told (found_at b.number r there).is_left).sizes))
    where
      each_some : (blocks : ℕ) (begins : List Begin) → AllByRecursion (IsSized blocks) begins
          → AllByRecursion (λ (begin : Begin). 1 ≤ begin.size) begins
      each_some blocks [] sized = tt
      each_some blocks (b ∷ earlier) sized =
          (sized.0.some, each_some blocks earlier sized.1)

  -- in a cycle that a token has room for
  left_in_time : (g : ℕ) (group : Group) → slice_get w.groups g ≡ Some group
      → All IsInTime (courses g).articles
  left_in_time g group at =
      rw at (each_in all IsInTime group.buffers (stand g group at)
      (λ i b r at_b there.
      let told = left_told (found_at b.number r there).is_left in
      All-weaker (λ (one : Extent). one.place.cycle ≤ cycle_of (history_left r)) IsInTime
      (λ one within. omega (arith, within, told.cycle)) (extents_left r)
      (own_cycles r.buffer (map asked (history_left r).begins))))

  -- each text is below the front of its buffer
  left_below : All (λ (one : Kept). IsBelow w state one.token) texts
  left_below = each_text ids (λ (one : Kept). IsBelow w state one.token) all (λ b r t at c.
      let f = found_at b r at in
      let told = left_told f.is_left in
      let again = ((f.is_left.lists (cycle_of (history_left r)) (used_of (history_left r))
      told.front).all t).0 c in
      let live = told.found (token_view t) again in
      let piece = again.there.pieces 0 (omega (arith, again.there.some)) in
      let there : slice_get w.buffers b ≡ Some r.buffer =
      f.there ∙ ap Some (sym f.is_left.same) in
      let number = own_number ids r f.is_left.some f.is_left.front (lists_own f.is_left) t c in
      record {
        buffer = r.buffer;
        named = only_found (λ (one : Buffer). one.number == t.buffer) w.buffers b r.buffer there
            (eq-eqb r.buffer.number t.buffer (sym number))
            (λ j y is e. sym (numbered j y is) ∙ eqb-true y.number t.buffer e ∙ number ∙ f.number);
        fits = record {
          class = piece.image.block.class;
          buffer = omega (
            arith,
            number,
            (holds_at IsSoundBuffer w.buffers sound.buffers b r.buffer there).number,
          );
          cycle = piece.image.block.cycle;
          first = piece.image.block.first;
          length = piece.image.block.article_length;
        };
        some = again.there.some;
        inside = piece.ends;
        below = rw (← left_front b r at) live.live.begun;
      })

  -- and as long as its token says
  left_lengths : All (λ (one : Kept). one.token.length ≡ length one.text) texts
  left_lengths = each_text ids (λ (one : Kept). one.token.length ≡ length one.text) all
      (λ b r t at c. sym (whole_length r.buffer r.blocks t
      (((lists_own (found_at b r at).is_left).all t).0 c).there))

  -- so all of it can be gone on with and written down
  pub left_record : AreOnRecord w courses texts
  left_record = record {
    sizes = left_sizes;
    in_time = left_in_time;
    below = left_below;
    lengths = left_lengths;
  }
