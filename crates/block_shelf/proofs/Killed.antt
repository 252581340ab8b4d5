-- What the stores of a buffer set are whose program is killed.
use Rattle.std.proofs.Common.{◌≡◌, ◌∙◌, ℕ, ◌+◌, ◌-◌, ◌*◌, ◌^◌, ◌<◌, ◌≤◌, ◌==◌, ◌||◌, Bool, true}
use Rattle.std.proofs.Common.{false, nat_le, nat_lt, refl, sym, ap, subst, arith, length, List, min}
use Rattle.std.proofs.Common.{Option, None, Some, drop, option_map, slice_get, unwrap_or}
use Rattle.std.specs.Prelude.{if◌then◌else◌}
use Rattle.std.proofs.lemmas.Bool.{and_parts, eqb-true, false≢true, leb-false, ltb-false}
use Rattle.std.proofs.lemmas.Bool.{true≢false}
use Rattle.std.proofs.lemmas.List.{length-drop, length-take}
use Rattle.std.proofs.lemmas.Option.{slice_get-map}
use Rattle.cyc_block.specs.Store.{block_at}
use Rattle.cyc_block.specs.declared.store.BlockStore.{Ghosts}
use Rattle.cyc_buffer.proofs.Finished.{Lies, lies}
use Rattle.cyc_buffer.proofs.FoundLemmas.{inside_unpassed}
use Rattle.cyc_buffer.proofs.Numbers.{live_place}
use Rattle.cyc_buffer.proofs.Reading.{is_block, under}
use Rattle.cyc_buffer.proofs.Sound.{first_within, used_within}
use Rattle.cyc_buffer.specs.Agreement.{Holds, store_of}
use Rattle.cyc_buffer.specs.BufferState.{IsUnpassedBy, Keeps}
use Rattle.cyc_buffer.specs.Crash.{IsLeftOf, IsThere}
use Rattle.cyc_buffer.specs.History as histories
use Rattle.cyc_buffer.specs.History.{History, cycle_of}
use Rattle.cyc_buffer.specs.Stopped.{IsLiveToken, block_under, used_of}
use Rattle.cyc_buffer.specs.declared.buffer.Buffer.{Buffer}
use Rattle.cyc_buffer.specs.declared.buffer_state.BufferState.{BufferState}
use Rattle.news_terms.specs.BlockImage.{IsBlock, block_image, block_of, chunk, chunk_size}
use Rattle.news_terms.specs.Places as places
use Rattle.news_terms.specs.Places.{on_line, size_of}
use Rattle.news_terms.specs.Settings.{IsSoundBuffer}
use Rattle.news_terms.specs.Token.{Token}
use Rattle.news_terms.proofs.ListPlaces.{holds_at}
use Rattle.relay_facts.proofs.Recorded.{under_below}
use Rattle.relay_model.specs.Fetches as fetches
use Rattle.relay_model.specs.Fetches.{article_of, buffer_of, decided_at, decided_in}
use Rattle.relay_model.specs.State.{State}
use Rattle.relay_model.specs.Terms.{Terms}
use Rattle.block_shelf.proofs.BufferSetReads.{named_buffer}
use Rattle.block_shelf.proofs.Reported.{fronts_agree}
use Rattle.block_shelf.proofs.Shelving.{buffers_kept}
use Rattle.block_shelf.specs.Killing.{LeavesStores, stores_of}
use Rattle.block_shelf.specs.Leaving.{HasLeft, is_text, is_whole, saved_in}
use Rattle.block_shelf.specs.declared.buffer_set.BufferSet.{BufferSet}

-- A LIVE ARTICLE

module _ (blocks : List (List ℕ)) (r : BufferState) (h : History) (keeps : Keeps r h)
    (holds : Holds blocks r h) (t : Token) (cycle : t.cycle < 2 ^ 32)
    (room : h.buffer.blocks < 2 ^ 32) (live : IsLiveToken h t) where
  lie : Lies h.buffer h.begins t.cycle t.first live.article
  lie = lies h.buffer h.begins t.cycle t.first live.article keeps.sizes live.finished

  size : size_of (length live.article.text) ≡ size_of t.length
  size = ap size_of live.octets

  -- its first block isn't passed
  unpassed : IsUnpassedBy (cycle_of h) (used_of h) t.cycle t.first
  unpassed =
      live_place h.buffer.blocks (cycle_of h) (used_of h) t.cycle t.first
      (omega (arith, lie.within, lie.some)) (used_within h.buffer.blocks h.begins keeps.sizes)
      live.live.begun live.live.here

  -- each of its blocks stands there
  stands : (k : ℕ) → k < size_of t.length
      → block_at blocks (t.first + k)
      ≡ block_image (block_of t.cycle t.first live.article.class live.article.text k)
  stands k inside =
      let within : k < size_of (length live.article.text) = omega (arith, inside, size) in
      holds.articles t.cycle t.first k live.article live.finished within
      (subst (λ n. IsUnpassedBy n r.line.used t.cycle (t.first + k)) (sym keeps.cycle)
      (subst (λ n. IsUnpassedBy (cycle_of h) n t.cycle (t.first + k)) (sym keeps.used)
      (inside_unpassed h t.cycle t.first k live.article keeps.sizes live.finished within unpassed)))

  -- it is one under the token
  same_block : (k : ℕ)
      → block_of t.cycle t.first live.article.class live.article.text k
      ≡ block_under t k (chunk k live.article.text)
  same_block k = λ i. record {
    cycle = t.cycle;
    first = t.first;
    index = k;
    article_length = live.octets i;
    class = live.class i;
    payload = chunk k live.article.text;
  }

  -- so all of it is there
  pub live_there : IsThere h.buffer blocks t
  live_there = record {
    some = omega (arith, lie.some, size);
    pieces = λ k inside.
        let within : k < size_of (length live.article.text) = omega (arith, inside, size) in
        record {
          number = live.buffer;
          begun = first_within h.buffer h.begins t.cycle t.first live.article live.finished;
          ends = omega (arith, lie.within, size);
          inside = inside;
          image = record {
            payload = chunk k live.article.text;
            block = subst IsBlock (same_block k)
                (is_block t.cycle t.first k live.article cycle
                (omega (arith, lie.within, within, room)) lie.class lie.octets within);
            fills = length-take chunk_size (drop (chunk_size * k) live.article.text)
                ∙ ap (λ n. min chunk_size n) (length-drop (chunk_size * k) live.article.text)
                ∙ ap (λ n. min chunk_size (n - chunk_size * k)) live.octets;
            image = stands k inside ∙ ap block_image (same_block k);
          };
        };
  }

-- A TEXT THAT A FETCH FINDS

-- a fetch of the token finds a text: its place is live, and a text is whole under it
record IsAsked (buffer : places.Buffer) (place front : ℕ) (text : Option (List ℕ)) : Type 0 where
  octets : List ℕ
  some : text ≡ Some octets
  begun : place < front
  here : front ≤ place + buffer.blocks

-- where a fetch gives a text the numbers decide nothing, and a text is whole
chosen_text : (known gone : Bool) (text : Option (List ℕ))
    → is_text (unwrap_or (if known then Some fetches.NotKnown
    else (if gone then Some fetches.Gone else None)) (article_of text)) ≡ true
    → (known ≡ false) × (gone ≡ false) × ((octets : List ℕ) × (text ≡ Some octets))
chosen_text true gone text e = absurd (false≢true e)
chosen_text false true text e = absurd (false≢true e)
chosen_text false false None e = absurd (false≢true e)
chosen_text false false (Some octets) e = (refl, refl, (octets, refl))

-- the last of three is false where one of them has to be true and isn't
last_false : (a b c : Bool) → (a || b || c) ≡ false → c ≡ false
last_false true b c e = absurd (true≢false e)
last_false false true c e = absurd (true≢false e)
last_false false false c e = e

is_asked : (t : Token) (buffer : places.Buffer) (place front : ℕ) (text : Option (List ℕ))
    → is_text (unwrap_or (decided_at t buffer place front) (article_of text)) ≡ true
    → IsAsked buffer place front text
is_asked t buffer place front text e =
    let chosen = chosen_text (t.length == 0 || nat_lt buffer.blocks (t.first + size_of t.length)
    || nat_le front place) (nat_lt (place + buffer.blocks) front) text e in
    record {
      octets = chosen.2.0;
      some = chosen.2.1;
      begun = leb-false front place
          (last_false (t.length == 0) (nat_lt buffer.blocks (t.first + size_of t.length))
          (nat_le front place) chosen.0);
      here = ltb-false (place + buffer.blocks) front chosen.1;
    }

-- the history has that article, and it is live
record IsFoundLive (σ : State) (h : History) (t : Token) : Type 0 where
  text : List ℕ
  under_it : fetches.text_under σ.kept t ≡ Some text
  live : IsLiveToken h t

found_live : (w : Terms) (σ : State) (h : History) (t : Token) → t.buffer ≡ h.buffer.number
    → histories.text_under h t ≡ fetches.text_under σ.kept t → buffer_of w t ≡ Some h.buffer
    → histories.front_of h ≡ fetches.front_of w σ h.buffer → is_whole w σ t ≡ true
    → IsFoundLive σ h t
found_live w σ h t number texts named fronts found =
    let asked = is_asked t h.buffer (on_line h.buffer.blocks t.cycle t.first)
    (fetches.front_of w σ h.buffer) (fetches.text_under σ.kept t)
    (subst
    (λ (o : Option places.Buffer). is_text (unwrap_or (decided_in w σ t o)
    (article_of (fetches.text_under σ.kept t)))
    ≡ true)
    named found) in
    let one = under h t asked.octets (texts ∙ asked.some) in
    record {
      text = asked.octets;
      under_it = asked.some;
      live = record {
        article = one.article;
        finished = one.finished;
        buffer = number;
        class = one.class;
        octets = one.octets;
        live = record {
          begun = omega (arith, asked.begun, fronts);
          here = omega (arith, asked.here, fronts);
        };
      };
    }

-- THE STORES

-- what a crash leaves of which nothing is asked it leaves with all that is there
with_saved : {h : History} {blocks : List (List ℕ)} (saved : Token → Bool)
    → IsLeftOf h (λ t. false) blocks → ((t : Token) → saved t ≡ true → IsLiveToken h t)
    → ((t : Token) → saved t ≡ true → IsThere h.buffer blocks t) → IsLeftOf h saved blocks
with_saved saved left live there = record {
  count = left.count;
  passed = left.passed;
  begun = left.begun;
  live = live;
  there = there;
}

-- a crash may leave the stores that are given
pub leaves_stores : {S : Type 0} {g : Ghosts S} (old : BufferSet S g) (stores : List S)
    → stores ≡ stores_of old → LeavesStores old stores
leaves_stores {S} {g} old stores are w σ openings failures keeps none below = record {
  fit = keeps.fit;
  laid = keeps.laid;
  buffers = left_at;
}
  where
    left_at : (b : ℕ) (buffer : places.Buffer) → slice_get w.buffers b ≡ Some buffer
        → HasLeft g stores w.groups σ.begun σ.kept openings (is_whole w σ) b buffer
    left_at b buffer at =
        let all = keeps.buffers b buffer at in
        let had = all.has in
        let now = had.keeps in
        let at_now : slice_get w.buffers b ≡ Some now.history.buffer =
        at ∙ ap Some (sym now.is_of_buffer) in
        let live : (t : Token) → saved_in (is_whole w σ) buffer t ≡ true
        → IsFoundLive σ now.history t =
        λ t saved.
        let both = and_parts (t.buffer == buffer.number) (is_whole w σ t) saved in
        let number = eqb-true t.buffer buffer.number both.0 in
        let own : t.buffer ≡ now.history.buffer.number =
        number ∙ ap (λ (x : places.Buffer). x.number) (sym now.is_of_buffer) in
        found_live w σ now.history t own (now.is_said.texts t own)
        (named_buffer σ (buffers_kept keeps) t
        ∙ ap (slice_get w.buffers) (number ∙ keeps.numbered b buffer at) ∙ at_now)
        (fronts_agree w σ now.history keeps.sound keeps.laid keeps.numbered b at_now
        now.is_said.begins)
        both.1 in
        record {
          store = store_of had.code;
          there = ap (λ (xs : List S). slice_get xs b) are
              ∙ slice_get-map (λ (code : Buffer S g). store_of code) old.buffers.items b
              ∙ ap (option_map (λ (code : Buffer S g). store_of code)) had.there;
          history = now.history;
          is_of_buffer = now.is_of_buffer;
          is_said = now.is_said;
          left = with_saved (saved_in (is_whole w σ) buffer)
              (all.left refl refl (sym now.failed ∙ none b buffer at))
              (λ t saved. (live t saved).live)
              (λ t saved.
              let one = live t saved in
              live_there (g.blocks (store_of had.code)) had.code.buffer_state now.history
              now.agrees.keeps (now.agrees.holds refl) t
              (under_below w σ σ.kept t one.text below one.under_it).fits.cycle
              (omega (
                arith,
                (holds_at IsSoundBuffer w.buffers keeps.sound.buffers b buffer at).most,
                ap (λ (x : places.Buffer). x.blocks) now.is_of_buffer,
              )) one.live);
        }
