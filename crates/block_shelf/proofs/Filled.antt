-- How far started buffers are filled: as the heads of their stores say, and as far as in each state
-- that they keep.
use Rattle.std.proofs.Common.{◌≡◌, ◌∙◌, ℕ, true, List, length, map, None, Some, slice_get}
use Rattle.std.proofs.Common.{option_map, ap, arith, refl, subst, sym}
use Rattle.std.proofs.lemmas.List.{length-map, same_lists}
use Rattle.std.proofs.lemmas.Option.{get_or_from_slice_get, same_Some, slice_get-map}
use Rattle.cyc_block.specs.declared.store.BlockStore.{Ghosts}
use Rattle.cyc_buffer.specs.Agreement.{Agrees}
use Rattle.cyc_buffer.specs.Filled.{filled_with}
use Rattle.cyc_buffer.specs.Head.{inside, said_of, stop_of}
use Rattle.cyc_buffer.specs.History.{History}
use Rattle.cyc_buffer.proofs.Fillings.{filled_so}
use Rattle.cyc_buffer.specs.declared.unopened.Unopened.{Unopened}
use Rattle.news_terms.proofs.ListPlaces.{there_within}
use Rattle.news_terms.specs.HeadBlocks.{Closed}
use Rattle.news_terms.specs.Places as places
use Rattle.relay_model.specs.Figures as model
use Rattle.relay_model.specs.Figures.{buffer_figures}
use Rattle.relay_model.specs.State.{State}
use Rattle.relay_model.specs.Terms.{Terms}
use Rattle.block_shelf.proofs.EachLemmas.{each_mapped}
use Rattle.block_shelf.proofs.Reported.{figures_agree}
use Rattle.block_shelf.specs.Each.{AreEach}
use Rattle.block_shelf.specs.Filled.{IsFilledAs, filled_at, filled_in, filled_of}
use Rattle.block_shelf.specs.Starting.{BuffersKeep, IsStartedOver, buffers_inside}

-- the heads say it
pub heads_say : {S : Type 0} {g : Ghosts S} (stores : List S) (buffers : List (Unopened S g))
    → AreEach IsStartedOver stores buffers
    → AreEach (IsFilledAs g) stores (map filled_in buffers)
heads_say {g = g} stores buffers are =
    each_mapped IsStartedOver (IsFilledAs g) filled_in stores buffers are
    (λ b store one there is honest.
    record {
      said = said_of Closed (stop_of (inside one)) (inside one);
      says = is.said honest;
      closed = refl;
      is = refl;
    })

module _ {S : Type 0} {g : Ghosts S} (buffers : List (Unopened S g)) (w : Terms) (σ : State)
    (failures : ℕ → ℕ)
    (keeps : BuffersKeep (buffers_inside buffers) w σ.begun σ.kept failures) where
  -- there are as many buffers as terms have
  as_many : length buffers ≡ length w.buffers
  as_many = sym (length-map buffers inside) ∙ keeps.count

  -- how far a buffer is filled is what the state says
  one_is : (k : ℕ) (one : Unopened S g) (buffer : places.Buffer)
      → slice_get buffers k ≡ Some one → slice_get w.buffers k ≡ Some buffer
      → filled_in one ≡ filled_at w σ buffer
  one_is k one buffer here at =
      let had = keeps.buffers k buffer at in
      let same : had.code ≡ inside one =
      same_Some had.code (inside one)
      (sym had.there ∙ slice_get-map inside buffers k ∙ ap (option_map inside) here) in
      let h : History = had.keeps.history in
      let is : filled_in one ≡ filled_with h =
      filled_so Closed (stop_of (inside one)) (inside one) true h
      (subst (λ each. Agrees true each h) same had.keeps.agrees) in
      let of : h.buffer ≡ buffer = had.keeps.is_of_buffer in
      let told =
      figures_agree w σ (λ g. None) keeps.sound keeps.laid keeps.numbered k h
      (at ∙ ap Some (sym of))
      had.keeps.is_said in
      is
      ∙ (λ i. record {
        blocks = (ap (λ (b : places.Buffer). b.blocks) of) i;
        front = (ap (λ (f : model.BufferFigures). f.front) told
            ∙ ap (λ b. (buffer_figures w σ b).front) of) i;
        stored = (ap (λ (f : model.BufferFigures). f.stored) told
            ∙ ap (λ b. (buffer_figures w σ b).stored) of) i;
      })

  -- so are all
  pub filled_held : map filled_in buffers ≡ filled_of w σ
  filled_held =
      let count = length-map buffers filled_in in
      same_lists (map filled_in buffers) (filled_of w σ)
      (count ∙ as_many ∙ sym (length-map w.buffers (filled_at w σ)))
      (λ k d within.
      let one = there_within buffers k (omega (arith, within, count)) in
      let at = there_within w.buffers k (omega (arith, within, count, as_many)) in
      get_or_from_slice_get (map filled_in buffers) k (filled_in one.0) d
      (slice_get-map filled_in buffers k ∙ ap (option_map filled_in) one.1)
      ∙ one_is k one.0 at.0 one.1 at.1
      ∙ sym (get_or_from_slice_get (filled_of w σ) k (filled_at w σ at.0) d
      (slice_get-map (filled_at w σ) w.buffers k ∙ ap (option_map (filled_at w σ)) at.1)))
