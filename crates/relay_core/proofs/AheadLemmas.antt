-- Whether a history is ahead of what stores hold.
use Rattle.std.proofs.Common.{◌≡◌, ◌∙◌, ℕ, Bool, List, ap, map, sym}
use Rattle.cyc_block.specs.declared.store.BlockStore.{Ghosts}
use Rattle.cyc_buffer.specs.Filled.{Filled}
use Rattle.cyc_buffer.specs.declared.unopened.Unopened.{Unopened}
use Rattle.id_history.specs.History as texts
use Rattle.relay_conf.specs.declared.settings.Config.{Config}
use Rattle.relay_model.specs.State.{Kept, State}
use Rattle.relay_model.specs.Terms.{Terms}
use Rattle.news_terms.specs.Courses.{Course}
use Rattle.block_shelf.proofs.Filled.{filled_held}
use Rattle.block_shelf.specs.Each.{AreEach}
use Rattle.block_shelf.specs.Filled.{IsFilledAs, filled_in, filled_of}
use Rattle.block_shelf.specs.Starting.{BuffersKeep, IsHeldBy, buffers_inside}
use Rattle.relay_core.specs.Ahead.{is_ahead}
use Rattle.relay_core.specs.Starting.{IsAheadAs}

-- it is what it is in each state that the stores hold
pub ahead_in : {S : Type 0} {g : Ghosts S} {config : Config} {stores : List S} {kept : texts.Kept}
    {answer : Bool} → IsAheadAs g config stores kept answer → (w : Terms) (σ : State)
    (failures : ℕ → ℕ)
    → IsHeldBy g config.buffers stores kept.stop w σ.begun σ.kept failures
    → is_ahead (filled_of w σ) kept ≡ answer
ahead_in {kept = kept} is w σ failures held =
    ap (λ (fs : List Filled). is_ahead fs kept) (sym (is.states w σ failures held)) ∙ is.is

-- buffers that are started over the stores tell it
pub ahead_by : {S : Type 0} {g : Ghosts S} (config : Config) (stores : List S) (kept : texts.Kept)
    (buffers : List (Unopened S g)) (answer : Bool)
    → AreEach (IsFilledAs g) stores (map filled_in buffers)
    → ((w : Terms) (begun : ℕ → Course) (kept_texts : List Kept) (failures : ℕ → ℕ)
    → IsHeldBy g config.buffers stores kept.stop w begun kept_texts failures
    → BuffersKeep (buffers_inside buffers) w begun kept_texts failures)
    → is_ahead (map filled_in buffers) kept ≡ answer → IsAheadAs g config stores kept answer
ahead_by config stores kept buffers answer heads keeps is = record {
  filled = map filled_in buffers;
  heads = heads;
  is = is;
  states = λ w σ failures held.
      filled_held buffers w σ failures (keeps w σ.begun σ.kept failures held);
}
