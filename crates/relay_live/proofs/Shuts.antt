-- What the stop of the parts of a relay gives.
use Rattle.std.proofs.Common.{◌≡◌, ◌∙◌, ◌⊎◌, inl, inr, ℕ, ◌++◌, ◌∷◌, [], true}
use Rattle.std.proofs.Common.{false, List, length, map, Option, None, Some, ap, arith, refl}
use Rattle.std.proofs.Common.{slice_get}
use Rattle.std.proofs.Common.{is_some, option_map, subst, sym, true≢false}
use Rattle.std.proofs.lemmas.List.{length-map}
use Rattle.std.proofs.lemmas.Option.{none-some, slice_get-map}
use Rattle.news_terms.specs.Courses.{Course}
use Rattle.block_shelf.proofs.EachLemmas.{here_through}
use Rattle.block_shelf.specs.Each.{AreEach}
use Rattle.block_shelf.specs.Starting.{BuffersKeep}
use Rattle.block_shelf.specs.Stopping.{HoldsTexts, IsShutOver, IsStopped}
use Rattle.cyc_block.specs.declared.store.BlockStore as blocks
use Rattle.cyc_buffer.specs.Head.{is_busy}
use Rattle.cyc_buffer.specs.declared.buffer.Buffer.{Buffer}
use Rattle.live_store.specs.Started.{ShutWith}
use Rattle.live_store.specs.Steps.{buffer_of}
use Rattle.live_store.specs.declared.numbered.NumberedBuffer.{NumberedBuffer}
use Rattle.live_store.specs.declared.record.StorePremises as store_premises
use Rattle.news_terms.proofs.ListPlaces.{at_pushed}
use Rattle.relay_core.specs.Stopping.{next_stop}
use Rattle.relay_live.specs.Alone.{codes_of, stop_in}
use Rattle.relay_live.specs.Stopping.{AreKnown, AreShutWith, IsAtRest, IsShutAll}
use Rattle.relay_live.specs.Stopping.{IsShutPartly, Shuts, TellsHistory}
use Rattle.relay_live.specs.declared.alone.Alone.{Alone}
use Rattle.relay_model.specs.State.{Kept}
use Rattle.relay_model.specs.Terms.{Terms}
use Rattle.post_history.specs.declared.book.Naming as naming

some_none : {X : Type 0} (x : X) → Some x ≡ None → ⊥
some_none x e = none-some x (sym e)

-- the stores hold what the buffers kept
pub holds_buffers : {S : Type 0} {s : blocks.Ghosts S} (stop : ℕ) (codes : List (Buffer S s))
    (stores : List S) → AreEach (IsShutOver stop) codes stores → (w : Terms) (begun : ℕ → Course)
    (kept : List Kept) (failures : ℕ → ℕ) → BuffersKeep codes w begun kept failures
    → HoldsTexts s stores stop w begun kept failures
holds_buffers stop codes stores shut w begun kept failures keeps = record {
  sound = keeps.sound;
  numbered = keeps.numbered;
  fit = keeps.fit;
  laid = keeps.laid;
  count = shut.count ∙ keeps.count;
  buffers = λ b buffer at.
      let had = keeps.buffers b buffer at in
      let left = shut.each b had.code had.there in
      record {
        store = left.item;
        there = left.there;
        honest = left.belongs.honest (had.keeps.agrees.honest refl);
        history = had.keeps.history;
        is_of_buffer = had.keeps.is_of_buffer;
        held = left.belongs.held had.keeps.history had.keeps.agrees;
        is_said = had.keeps.is_said;
        failed = had.keeps.failed ∙ sym left.belongs.no_failure;
      };
}

module _ {S : Type 0} (s : blocks.Ghosts S) {J : Type 0} (j : store_premises.Ghosts J) (stop : ℕ)
    (failed : Option ℕ) (old new : List S) where
  -- of one store more it is known
  pub known_more : (store : S) → new ≡ old ++ store ∷ [] → is_some failed ≡ false
      → (j.trusted ≡ true → ∥ ShutWith j.register stop (s.heads store) (s.blocks store) ∥₁)
      → AreKnown s j stop failed old → AreKnown s j stop None new
  known_more store made none known had e trusted b one there =
      by b one (at_pushed old store b one (ap (λ items. slice_get items b) (sym made) ∙ there))
    where
      is_none : (o : Option ℕ) → is_some o ≡ false → o ≡ None
      is_none None e = refl
      is_none (Some n) e = absurd (true≢false e)

      by : (b : ℕ) (one : S) → (slice_get old b ≡ Some one) ⊎ ((b ≡ length old) × (store ≡ one))
          → ∥ ShutWith j.register stop (s.heads one) (s.blocks one) ∥₁
      by b one (inl was) = had (is_none failed none) trusted b one was
      by b one (inr last) =
          subst (λ each. ∥ ShutWith j.register stop (s.heads each) (s.blocks each) ∥₁) last.1
          (known trusted)

  -- where one has failed, nothing is said
  pub known_failed : (later : Option ℕ) → is_some later ≡ true → AreKnown s j stop later new
  known_failed None some e trusted = absurd (true≢false (sym some))
  known_failed (Some place) some e trusted = absurd (some_none place e)

-- of no store anything is said
pub known_none
    : {S : Type 0} (s : blocks.Ghosts S) {J : Type 0} (j : store_premises.Ghosts J) (stop : ℕ)
    (failed : Option ℕ) (stores : List S) → stores ≡ [] → AreKnown s j stop failed stores
known_none s j stop failed stores none e trusted b one there =
    absurd (none-some one (ap (λ items. slice_get items b) (sym none) ∙ there))

-- no write is open in the next buffer, where none is in any
pub idle_here : {S J : Type 0} {s : blocks.Ghosts S} {j : store_premises.Ghosts J}
    (through left all : List (NumberedBuffer S J s j)) (one : NumberedBuffer S J s j)
    (more : List (NumberedBuffer S J s j)) → through ++ left ≡ all → left ≡ one ∷ more
    → ((b : ℕ) (code : Buffer S s) → slice_get (map buffer_of all) b ≡ Some code
    → is_busy code ≡ false)
    → is_busy (buffer_of one) ≡ false
idle_here through left all one more is next idle =
    idle (length through) (buffer_of one)
    (slice_get-map buffer_of all (length through)
    ∙ ap (option_map buffer_of) (here_through through left all one more is next))

-- WHAT CLOSING GIVES

module _ {S J L : Type 0} {s : blocks.Ghosts S} {j : store_premises.Ghosts J} {n : naming.Ghosts J}
    (old : Alone S J L s j n)
    (rest : IsAtRest old) where
  -- it is closed
  pub shuts : (stop : ℕ) (stores : List S) (text : List ℕ) → stop ≡ next_stop (stop_in old)
      → TellsHistory old stop text → IsShutAll stop old.buffers.items None stores
      → Shuts old stores text
  shuts stop stores text is told all =
      let shut = all rest.buffers in
      let S' : ℕ → Type 0 = λ n. IsStopped n (codes_of old) None stores in
      let K : ℕ → Type 0 = λ n. j.trusted ≡ true → AreShutWith s j.register n stores in
      let each = subst S' is shut.0 in
      let tells = subst (λ n. TellsHistory old n text) is told in
      record {
        rest = rest;
        told = tells;
        each = each;
        known = subst K is (shut.1 refl);
        holds = λ w x keeps well. record {
          tells = tells w x.state keeps.beside;
          buffer_set =
              holds_buffers (next_stop (stop_in old)) (codes_of old) stores each w x.state.begun
              x.state.kept x.work.failures keeps.buffers;
          idle = λ id. rest.claims x.state.claim keeps.beside.claims id;
          well = well;
        };
      }

  -- or the device of a buffer has failed
  pub shut_partly : (stop number : ℕ) (stores : List S)
      → IsShutAll stop old.buffers.items (Some number) stores → IsShutPartly old number stores
  shut_partly stop number stores all =
      let shut = (all rest.buffers).0 in
      record {
        place = number;
        within = omega (arith, shut.0, length-map old.buffers.items buffer_of);
        told = refl;
        left = shut.1;
      }
