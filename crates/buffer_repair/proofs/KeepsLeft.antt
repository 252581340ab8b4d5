-- What all buffers that are found again keep then.
use Rattle.std.proofs.Common.{◌≡◌, ◌∙◌, ℕ, ◌*◌, ◌^◌, ◌≤◌, ◌==◌, inl, inr, arith, refl, sym, ap}
use Rattle.std.proofs.Common.{subst, Bool, true, List, [], ◌∷◌, length, map, All, Option, Some}
use Rattle.std.proofs.Common.{slice_get, option_map, count_by, false}
use Rattle.std.specs.Prelude.{unwrap_or}
use Rattle.std.proofs.lemmas.List.Elements.{All-contains_itself, All-filter, All-pop, All-weaker}
use Rattle.std.proofs.Math.Nat.{mul-le-mul_right}
use Rattle.std.proofs.lemmas.List.{length-map}
use Rattle.std.proofs.lemmas.Bool.{and_from, cases_lt, eq-eqb, false≢true}
use Rattle.std.proofs.lemmas.Option.{none-some, same_Some, slice_get-map, slice_get_within}
use Rattle.std.specs.List.{Contains}
use Rattle.cyc_block.specs.declared.store.BlockStore.{Ghosts}
use Rattle.cyc_buffer.proofs.Finished.{none_is_none}
use Rattle.cyc_buffer.proofs.Places.{chosen}
use Rattle.cyc_buffer.specs.Agreement.{buffer_state_of}
use Rattle.cyc_buffer.proofs.CrashLaws.{front_before, tells_left}
use Rattle.cyc_buffer.specs.Crash.{IsFrontOn, IsLeftOf, IsOfHistory, IsUnused, Tells}
use Rattle.cyc_buffer.specs.History as histories
use Rattle.cyc_buffer.specs.History.{Begin, History, asked, begun_at, cycle_of, front_of, is_at}
use Rattle.cyc_buffer.specs.History.{head_of}
use Rattle.cyc_buffer.specs.Stopped.{used_of}
use Rattle.cyc_buffer.specs.declared.starting.Started.{Started}
use Rattle.cyc_token.specs.Token.{token_view}
use Rattle.cyc_token.specs.declared.Token as codes
use Rattle.news_terms.proofs.ListPlaces.{holds_at, there_within}
use Rattle.news_terms.specs.Courses.{Course, articles_of, is_in_buffer}
use Rattle.news_terms.specs.Fronts.{FitsGroup}
use Rattle.news_terms.specs.Picks.{place_after}
use Rattle.news_terms.specs.Places as places
use Rattle.news_terms.specs.Places.{Extent, front_after, on_line, place_in_buffer, size_of}
use Rattle.news_terms.specs.Settings.{AreSound, IsBufferAt, IsSoundBuffer}
use Rattle.news_terms.specs.Token.{Token}
use Rattle.relay_conf.specs.Settings.{places_of_buffers, places_of_groups}
use Rattle.relay_conf.specs.declared.cycbuff.BufferConf.{BufferConf}
use Rattle.relay_conf.specs.declared.settings.Buffers.{Buffers}
use Rattle.relay_model.specs.Fetches as fetches
use Rattle.relay_model.specs.Fetches.{extents_from}
use Rattle.relay_model.specs.State.{Kept, State, empty_state}
use Rattle.relay_model.specs.Terms.{Terms}
use Rattle.block_shelf.proofs.NewBufferSet.{buffer_is, buffers_count, same_count}
use Rattle.block_shelf.proofs.Reported.{fronts_agree}
use Rattle.block_shelf.specs.Filling.{failures_in}
use Rattle.block_shelf.specs.Histories.{IsHistoryOf}
use Rattle.block_shelf.specs.Openings.{Opening}
use Rattle.block_shelf.specs.Starting.{BuffersKeep, buffer_over}
use Rattle.buffer_repair.proofs.LeftRelay.{IsLeft, IsLeftAt, left_fit, left_laid, left_live}
use Rattle.buffer_repair.proofs.LeftRelay.{left_front, left_nowhere, left_places, left_record}
use Rattle.buffer_repair.proofs.LeftRelay.{left_said, left_told, left_under}
use Rattle.buffer_repair.proofs.LeftBefore.{found_before, listed_before}
use Rattle.buffer_repair.specs.Finding.{AreFoundOver, IsFoundOver, remains_in}
use Rattle.buffer_repair.specs.Parts.{buffer_in, remains_of}
use Rattle.block_shelf.specs.Keeping.{AreLeft}
use Rattle.block_shelf.specs.Leaving.{AreLeftOf, saved_in}
use Rattle.buffer_repair.specs.Keeping.{AgreeWithBefore, AreOnRecord, IsLiveText, KeepsFound}
use Rattle.buffer_repair.specs.Remains.{AreOfGroups, AreTurns, Remains, all_texts_left}
use Rattle.buffer_repair.specs.Remains.{courses_left, history_left}
use Rattle.buffer_repair.specs.declared.found_set.FoundBufferSet.{FoundBufferSet}

-- the token of these parts
abbrev declared : Token → codes.Token
declared t = record {
  class = t.class;
  buffer = t.buffer;
  cycle = t.cycle;
  first = t.first;
  length = t.length;
}

module _ {S : Type 0} {g : Ghosts S} (settings : Buffers) {stores : List S}
    (found : List (Started S g))
    (sized : map (λ store. length (g.blocks store)) stores
    ≡ map (λ (conf : BufferConf). conf.blocks) settings.buffers.items)
    (honest : All g.honest stores) (over : AreFoundOver stores found) (w : Terms)
    (same_buffers : w.buffers ≡ places_of_buffers settings)
    (same_groups : w.groups ≡ places_of_groups settings) where
  -- what is left of all buffers
  abbrev left_all : List Remains
  left_all = map (λ (one : Started S g). remains_of one) found

  -- the buffers and groups are sound
  sound : AreSound w.buffers w.groups
  sound = rw (same_buffers, same_groups) settings.sound

  -- there are as many
  as_many : length found ≡ length w.buffers
  as_many = over.count ∙ same_count g settings stores sized
      ∙ sym (ap length same_buffers ∙ buffers_count settings)

  -- what was found over the store of a buffer
  record At (b : ℕ) (buffer : places.Buffer) : Type 0 where
    store : S
    there : slice_get stores b ≡ Some store
    one : Started S g
    is : slice_get found b ≡ Some one
    how : IsFoundOver b store one
    sure : g.honest store
    over_it : buffer ≡ buffer_over g b store
    some : 1 ≤ length (g.blocks store)
    most : length (g.blocks store) ≤ 2 ^ 22

  at_buffer : (b : ℕ) (buffer : places.Buffer) → slice_get w.buffers b ≡ Some buffer → At b buffer
  at_buffer b buffer at =
      let one = there_within stores b
      (omega (arith, slice_get_within w.buffers b buffer at, over.count, as_many)) in
      let was = over.each b one.0 one.1 in
      let over_it = buffer_is g settings stores sized b buffer one.0
      (ap (λ bs. slice_get bs b) (sym same_buffers) ∙ at) one.1 in
      let is_sound = holds_at IsSoundBuffer w.buffers sound.buffers b buffer at in
      record {
        store = one.0;
        there = one.1;
        one = was.item;
        is = was.there;
        how = was.belongs;
        sure = holds_at g.honest stores honest b one.0 one.1;
        over_it = over_it;
        some = subst (λ (x : places.Buffer). 1 ≤ x.blocks) over_it is_sound.some;
        most = subst (λ (x : places.Buffer). x.blocks ≤ 2 ^ 22) over_it is_sound.most;
      }

  -- the buffers are numbered in their order
  numbered : (b : ℕ) (buffer : places.Buffer) → slice_get w.buffers b ≡ Some buffer
      → buffer.number ≡ b
  numbered b buffer at = ap (λ (x : places.Buffer). x.number) (at_buffer b buffer at).over_it

  -- what is left, by the store that it was found over
  abbrev over_store : {b : ℕ} {buffer : places.Buffer} → At b buffer → Remains
  over_store {b} at = record {
    buffer = buffer_over g b at.store;
    blocks = g.blocks at.store;
    cycle = (buffer_state_of (buffer_in at.one)).line.cycle;
    used = (buffer_state_of (buffer_in at.one)).line.used;
    tokens = at.one.tokens.items;
  }

  same_left : {b : ℕ} {buffer : places.Buffer} (at : At b buffer)
      → remains_of at.one ≡ over_store at
  same_left at =
      let place = at.how.place at.sure at.some in
      let blocks = at.how.held.blocks at.sure in
      λ i. record {
        buffer = place i;
        blocks = blocks i;
        cycle = (buffer_state_of (buffer_in at.one)).line.cycle;
        used = (buffer_state_of (buffer_in at.one)).line.used;
        tokens = at.one.tokens.items;
      }

  -- this is left of the buffer
  is_left : {b : ℕ} {buffer : places.Buffer} (at : At b buffer)
      → IsLeft (remains_of at.one) buffer
  is_left {b} {buffer} at =
      subst (λ (r : Remains). IsLeft r buffer) (sym (same_left at)) (record {
        same = sym at.over_it;
        some = at.some;
        most = omega (arith, at.most);
        since = omega arith;
        count = refl;
        front = at.how.front at.sure;
        lists = at.how.found at.sure;
      })

  -- at the place of each
  there_left : (b : ℕ) (buffer : places.Buffer) (at : slice_get w.buffers b ≡ Some buffer)
      → slice_get left_all b ≡ Some (remains_of (at_buffer b buffer at).one)
  there_left b buffer at =
      slice_get-map (λ (one : Started S g). remains_of one) found b
      ∙ ap (option_map (λ (one : Started S g). remains_of one)) (at_buffer b buffer at).is

  left_at : (b : ℕ) (buffer : places.Buffer) → slice_get w.buffers b ≡ Some buffer
      → IsLeftAt left_all b buffer
  left_at b buffer at = record {
    left = remains_of (at_buffer b buffer at).one;
    there = there_left b buffer at;
    is_left = is_left (at_buffer b buffer at);
  }

  left_count : length left_all ≡ length w.buffers
  left_count = length-map found (λ (one : Started S g). remains_of one) ∙ as_many

  module _ (ids : Token → List ℕ) (turns : ℕ → ℕ) (are_turns : AreTurns w.groups turns)
      (of_groups : AreOfGroups w.groups left_all) where
    -- a crash may leave their stores again
    pub may_be_left : AreLeft (map (λ (one : Started S g). buffer_in one) found) w
        (courses_left w.groups turns left_all) (all_texts_left ids left_all)
        (failures_in g stores)
    may_be_left b buffer at =
        let a = at_buffer b buffer at in
        record {
          has = record {
            code = buffer_in a.one;
            there = slice_get-map (λ (one : Started S g). buffer_in one) found b
                ∙ ap (option_map (λ (one : Started S g). buffer_in one)) a.is;
            keeps = record {
              history = history_left (remains_of a.one);
              is_of_buffer = (is_left a).same;
              agrees = a.how.history a.sure a.some;
              is_said = left_said w left_all sound numbered left_count left_at of_groups ids
                  turns are_turns b (remains_of a.one) (there_left b buffer at);
              failed = ap (failures_in g stores) (numbered b buffer at)
                  ∙ ap (λ (o : Option S). unwrap_or (option_map g.failures o) 0) a.there
                  ∙ sym a.how.no_failure;
            };
          };
          left = λ sure yes none.
              tells_left (history_left (remains_of a.one)) (λ t. false)
              (remains_of a.one).blocks (left_told (is_left a))
              (λ t never. absurd (false≢true never));
        }

    -- the buffers keep what is left
    pub buffers_left : BuffersKeep (map (λ (one : Started S g). buffer_in one) found) w
        (courses_left w.groups turns left_all) (all_texts_left ids left_all)
        (failures_in g stores)
    buffers_left = record {
      sound = sound;
      numbered = numbered;
      fit = left_fit w left_all sound numbered left_count left_at of_groups ids turns are_turns;
      laid = left_laid w left_all sound numbered left_count left_at of_groups ids turns are_turns;
      count = length-map found (λ (one : Started S g). buffer_in one) ∙ as_many;
      buffers = λ b buffer at. (may_be_left b buffer at).has;
    }

    -- each text is live
    pub live_left : All (IsLiveText w (courses_left w.groups turns left_all))
        (all_texts_left ids left_all)
    live_left = left_live w left_all sound numbered left_count left_at of_groups ids turns are_turns

    -- and at a place lies one at most
    pub places_left : (buffer cycle first : ℕ)
        → count_by (fetches.is_at buffer cycle first) (all_texts_left ids left_all) ≤ 1
    places_left = left_places w left_all sound numbered left_count left_at of_groups ids turns
        are_turns

    -- it can be gone on with and written down
    pub record_left : AreOnRecord w (courses_left w.groups turns left_all)
        (all_texts_left ids left_all)
    record_left = left_record w left_all sound numbered left_count left_at of_groups ids turns
        are_turns

  -- WHAT A CRASH HAS LEFT

  -- each size that was begun at a place is that of an article begun there
  size_begun : (P : ℕ → Type 0) (buffer : places.Buffer) (begins : List Begin)
      → All (λ (one : Extent). P one.size) (articles_of buffer (map asked begins))
      → (cycle first size : ℕ) → begun_at buffer begins cycle first ≡ Some size → P size
  size_begun P buffer [] each cycle first size is = absurd (none_is_none is)
  size_begun P buffer (b ∷ earlier) each cycle first size is =
      let at = place_after buffer.blocks (head_of buffer.blocks earlier) b.fresh b.size in
      let both = All-pop (λ (one : Extent). P one.size)
      (articles_of buffer (map asked (b ∷ earlier))) (articles_of buffer (map asked earlier))
      (Some (record { place = place_in_buffer buffer at; size = b.size })) refl each in
      elim (chosen (is_at buffer at cycle first) (Some b.size)
      (begun_at buffer earlier cycle first) (Some size) is) [
        | inl p ↦ subst P (same_Some b.size size p.1) both.1
        | inr p ↦ size_begun P buffer earlier both.0 cycle first size p.1
      ]

  -- a front before which nothing was begun is that of the first cycle
  none_reached : (blocks : List (List ℕ)) (h : History) (saved : Token → Bool)
      → IsLeftOf h saved blocks → h.begins ≡ [] → (cycle used : ℕ)
      → IsFrontOn h.buffer blocks cycle used → IsUnused h.buffer cycle used
  none_reached blocks h saved left none cycle used front = elim front.reached [
    | inl reached ↦
        let passed = left.passed reached.token reached.index reached.piece in
        let start : front_of h ≡ h.buffer.first_cycle * h.buffer.blocks =
        ap (λ (bs : List Begin). front_of (record h { begins = bs })) none ∙ omega arith in
        absurd (omega (
          arith,
          passed,
          start,
          reached.piece.inside,
          mul_grows h.buffer.first_cycle reached.token.cycle h.buffer.blocks
              reached.piece.begun,
        ))
    | inr unused ↦ unused
  ]
    where
      mul_grows : (a b n : ℕ) → a ≤ b → a * n ≤ b * n
      mul_grows a b n less = mul-le-mul_right {m = a} {n = b} n less

  module _ {begun : ℕ → Course} {kept : List Kept} {openings : ℕ → Option Opening}
      {saved : Token → Bool} (leaves : AreLeftOf g stores w begun kept openings saved) where
    -- what was found of a buffer, with the history that it had
    record HadAt (b : ℕ) (r : Remains) : Type 0 where
      number : r.buffer.number ≡ b
      told : Tells r.blocks (history_left r)
      past : History
      same : past.buffer ≡ r.buffer
      said : IsHistoryOf w.groups begun kept openings past
      left : IsLeftOf past (saved_in saved r.buffer) r.blocks
      front : IsFrontOn r.buffer r.blocks r.cycle r.used
      each : (t : codes.Token) → Contains r.tokens t → IsOfHistory past r.blocks (token_view t)
      all_saved : (t : codes.Token) → t.buffer ≡ r.buffer.number → saved (token_view t) ≡ true
          → Contains r.tokens t

    had_at : (b : ℕ) (r : Remains) → slice_get left_all b ≡ Some r → HadAt b r
    had_at b r is =
        let one = there_within w.buffers b
        (omega (arith, slice_get_within left_all b r is, left_count)) in
        let a = at_buffer b one.0 one.1 in
        let had = leaves.buffers b one.0 one.1 in
        let own = saved_in saved one.0 in
        let left : IsLeftOf had.history own (g.blocks a.store) =
        subst (λ s. IsLeftOf had.history own (g.blocks s))
        (same_Some had.store a.store (sym had.there ∙ a.there)) had.left in
        let blocks : g.blocks a.store ≡ (remains_of a.one).blocks =
        sym (a.how.held.blocks a.sure) in
        subst (HadAt b)
        (same_Some (remains_of a.one) r (sym (there_left b one.0 one.1) ∙ is))
        (record {
          number = ap (λ (x : places.Buffer). x.number) (is_left a).same
              ∙ numbered b one.0 one.1;
          told = left_told (is_left a);
          past = had.history;
          same = had.is_of_buffer ∙ sym (is_left a).same;
          said = had.is_said;
          left = subst (IsLeftOf had.history (saved_in saved (remains_of a.one).buffer)) blocks
              (subst (λ (x : places.Buffer). IsLeftOf had.history (saved_in saved x)
              (g.blocks a.store)) (sym (is_left a).same) left);
          front = (is_left a).front;
          each = λ t c. subst (λ (bs : List (List ℕ)). IsOfHistory had.history bs (token_view t))
              blocks (a.how.begun a.sure had.history own left
              (had.is_of_buffer ∙ a.over_it) t c);
          all_saved = λ t here is_saved.
              a.how.kept a.sure had.history own left (had.is_of_buffer ∙ a.over_it) t
              (and_from (t.buffer == one.0.number) (saved (token_view t))
              (eq-eqb t.buffer one.0.number
              (here ∙ ap (λ (x : places.Buffer). x.number) (is_left a).same)) is_saved);
        })

    -- what is found of the stores of a relay with these groups is one's with these groups
    pub of_groups_left : AreOfGroups w.groups left_all
    of_groups_left = record {
      unused = λ b r at nobody.
          let f = had_at b r at in
          let none = f.said.begins.none (λ k i is. nobody k i
          (subst (λ (x : places.Buffer). IsBufferAt w.groups k i x) f.same is)) in
          subst (λ (x : places.Buffer). IsUnused x r.cycle r.used) f.same
          (none_reached r.blocks f.past (saved_in saved r.buffer) f.left none r.cycle r.used
          (subst (λ (x : places.Buffer). IsFrontOn x r.blocks r.cycle r.used)
          (sym f.same) f.front));
      fit = λ b k i r group at is_group is_buffer.
          let f = had_at b r at in
          let P : Extent → Type 0 = λ one. FitsGroup group one.size in
          All-weaker (Contains r.tokens)
          (λ (t : codes.Token). FitsGroup group (size_of t.length))
          (λ t c. size_begun (FitsGroup group) f.past.buffer f.past.begins
          (rw (f.said.begins.picked k i group is_group (is_buffer ∙ ap Some (sym f.same)))
          (All-filter (is_in_buffer f.past.buffer) P (begun k).articles
          (leaves.fit k group is_group)))
          t.cycle t.first (size_of t.length) (f.each t c).size)
          r.tokens (All-contains_itself r.tokens);
    }

    module _ (ids : Token → List ℕ) (turns : ℕ → ℕ) (are_turns : AreTurns w.groups turns) where
      -- the courses and the texts that are found
      abbrev now : ℕ → Course
      now = courses_left w.groups turns left_all

      abbrev all_texts : List Kept
      all_texts = all_texts_left ids left_all

      -- no front is past where it was
      front_left : (b : ℕ) (r : Remains) → slice_get left_all b ≡ Some r
          → slice_get w.buffers b ≡ Some r.buffer
          → front_after r.buffer (extents_from 0 w.groups now)
          ≤ front_after r.buffer (extents_from 0 w.groups begun)
      front_left b r at there =
          let f = had_at b r at in
          let cycle = cycle_of (history_left r) in
          let used = used_of (history_left r) in
          let state : State = record empty_state { begun = begun } in
          let ends : on_line r.buffer.blocks cycle used
          ≡ front_after r.buffer (extents_from 0 w.groups now) =
          left_front w left_all sound numbered left_count left_at of_groups_left ids turns are_turns
          b r at in
          let was : front_of f.past ≡ front_after r.buffer (extents_from 0 w.groups begun) =
          subst (λ (x : places.Buffer). front_of f.past
          ≡ front_after x (extents_from 0 w.groups begun)) f.same
          (fronts_agree w state f.past sound leaves.laid numbered b
          (there ∙ ap Some (sym f.same)) f.said.begins) in
          let most : on_line r.buffer.blocks cycle used ≤ front_of f.past =
          subst (λ (x : places.Buffer). on_line x.blocks cycle used ≤ front_of f.past) f.same
          (front_before f.past (saved_in saved r.buffer) r.blocks f.left cycle used
          (subst (λ (x : places.Buffer). IsFrontOn x r.blocks cycle used) (sym f.same)
          f.told.front)) in
          omega (arith, ends, was, most)

      -- what the history had under a token is what was whole under it
      under_past : (b : ℕ) (r : Remains) (f : HadAt b r) (t : Token) → t.buffer ≡ b
          → (old : List ℕ) → fetches.text_under kept t ≡ Some old
          → histories.text_under f.past t ≡ Some old
      under_past b r f t here old was =
          f.said.texts t
          (here ∙ sym f.number ∙ ap (λ (x : places.Buffer). x.number) (sym f.same)) ∙ was

      -- what is found under a token is what was whole under it
      text_left_before : (t : Token) (text old : List ℕ) → fetches.text_under kept t ≡ Some old
          → fetches.text_under all_texts t ≡ Some text → text ≡ old
      text_left_before t text old was found = elim (cases_lt t.buffer (length left_all)) [
        | inl within ↦
            let r = there_within left_all t.buffer within in
            let f = had_at t.buffer r.0 r.1 in
            found_before ids r.0 f.past f.same f.each t text old (sym f.number)
            (under_past t.buffer r.0 f t refl old was)
            (sym (left_under w left_all sound numbered left_count left_at of_groups_left ids turns
            are_turns t.buffer r.0 r.1 t (sym f.number)) ∙ found)
        | inr past ↦ absurd (none-some text
            (sym (left_nowhere w left_all sound numbered left_count left_at of_groups_left ids turns
            are_turns t past) ∙ found))
      ]

      -- and what was saved is found
      text_left_saved : (t : Token) (old : List ℕ) (r : Remains)
          → slice_get left_all t.buffer ≡ Some r → saved t ≡ true
          → fetches.text_under kept t ≡ Some old → fetches.text_under all_texts t ≡ Some old
      text_left_saved t old r at is_saved was =
          let f = had_at t.buffer r at in
          left_under w left_all sound numbered left_count left_at of_groups_left ids turns
          are_turns t.buffer r at t (sym f.number)
          ∙ listed_before ids r f.past f.same f.each t old (sym f.number)
          (under_past t.buffer r f t refl old was) (declared t)
          (f.all_saved (declared t) (sym f.number) is_saved) refl

      -- so what is found agrees with what that relay had
      pub agree_before : AgreeWithBefore w begun now saved kept all_texts
      agree_before = record {
        fronts = λ b buffer at.
            let same = (is_left (at_buffer b buffer at)).same in
            subst (λ (x : places.Buffer). front_after x (extents_from 0 w.groups now)
            ≤ front_after x (extents_from 0 w.groups begun)) same
            (front_left b (remains_of (at_buffer b buffer at).one) (there_left b buffer at)
            (at ∙ ap Some (sym same)));
        texts = text_left_before;
        all_saved = λ t old buffer at is_saved was.
            text_left_saved t old (remains_of (at_buffer t.buffer buffer at).one)
            (there_left t.buffer buffer at) is_saved was;
      }

-- so the set keeps what is left
pub keeps_left : {S : Type 0} {g : Ghosts S} (settings : Buffers) {stores : List S}
    (found_set : FoundBufferSet S g)
    → map (λ store. length (g.blocks store)) stores
    ≡ map (λ (conf : BufferConf). conf.blocks) settings.buffers.items
    → All g.honest stores → AreFoundOver stores found_set.found.items → (w : Terms)
    → w.buffers ≡ places_of_buffers settings → w.groups ≡ places_of_groups settings
    → (ids : Token → List ℕ) (turns : ℕ → ℕ) → AreTurns w.groups turns
    → AreOfGroups w.groups (remains_in found_set)
    → KeepsFound found_set w (courses_left w.groups turns (remains_in found_set))
    (all_texts_left ids (remains_in found_set)) (failures_in g stores)
keeps_left settings found_set sized honest over w same_buffers same_groups ids turns are_turns
    of_groups =
    let found = found_set.found.items in
    record {
      texts = buffers_left settings found sized honest over w same_buffers same_groups ids turns
          are_turns of_groups;
      live = live_left settings found sized honest over w same_buffers same_groups ids turns
          are_turns of_groups;
      places = places_left settings found sized honest over w same_buffers same_groups ids turns
          are_turns of_groups;
      left = may_be_left settings found sized honest over w same_buffers same_groups ids turns
          are_turns of_groups;
    }
