-- What a repair has given is what it gave once the heads that it wrote were read.
use Rattle.std.proofs.Common.{◌∙◌, ℕ, List, None, Option, subst, sym}
use Rattle.std.proofs.lemmas.Option.{none-some}
use Rattle.block_shelf.specs.Each.{AreEach}
use Rattle.block_shelf.specs.Starting.{IsUnwritten}
use Rattle.block_shelf.specs.Stopping.{HoldsTexts}
use Rattle.cyc_block.specs.declared.store.BlockStore.{Ghosts}
use Rattle.cyc_buffer.specs.Stopped.{HoldsStopped}
use Rattle.news_terms.specs.Courses.{Course}
use Rattle.relay_conf.specs.declared.settings.Config.{Config}
use Rattle.relay_core.specs.Stopping.{IsShut}
use Rattle.relay_model.specs.State.{Kept}
use Rattle.relay_model.specs.Terms.{Terms}
use Rattle.relay_model.specs.World.{World}
use Rattle.relay_repair.specs.Repairing.{Repairs}

module _ {S : Type 0} (g : Ghosts S) (stores back : List S)
    (are : AreEach (IsUnwritten g None) stores back) where
  -- stores that are unwritten hold what they held
  holds_again : (stop : ℕ) (w : Terms) (begun : ℕ → Course) (kept : List Kept) (failures : ℕ → ℕ)
      → HoldsTexts g stores stop w begun kept failures
      → HoldsTexts g back stop w begun kept failures
  holds_again stop w begun kept failures holds = record {
    sound = holds.sound;
    numbered = holds.numbered;
    fit = holds.fit;
    laid = holds.laid;
    count = are.count ∙ holds.count;
    buffers = λ b buffer is.
        let was = holds.buffers b buffer is in
        let now = are.each b was.store was.there in
        record {
          store = now.item;
          there = now.there;
          honest = now.belongs.held.honest was.honest;
          history = was.history;
          is_of_buffer = was.is_of_buffer;
          held = subst (λ heads. HoldsStopped heads (g.blocks now.item) stop was.history)
              (sym (now.belongs.held.heads was.honest))
              (subst (λ blocks. HoldsStopped (g.heads was.store) blocks stop was.history)
              (sym (now.belongs.held.blocks was.honest)) was.held);
          is_said = was.is_said;
          failed = was.failed ∙ sym (now.belongs.no_failure (none-some b));
        };
  }

  -- so they are those of a stop
  shut_again : (w : Terms) (stop : ℕ) (text : List ℕ) (x : World) → IsShut g w stop stores text x
      → IsShut g w stop back text x
  shut_again w stop text x shut = record {
    tells = shut.tells;
    buffer_set = holds_again stop w x.state.begun x.state.kept x.work.failures shut.buffer_set;
    idle = shut.idle;
    well = shut.well;
  }

  -- and those that a repair gave
  pub repairs_again : (config : Config) (left : List S) (text : Option (List ℕ)) (now : ℕ)
      (history : List ℕ) → Repairs g config left text now stores history
      → Repairs g config left text now back history
  repairs_again config left text now history repairs = (
    repairs.0,
    repairs.1,
    λ honest w saved x same left_by.
        let of = repairs.2 honest w saved x same left_by in
        record {
          after = of.after;
          crash = of.crash;
          listed = of.listed;
          moment = of.moment;
          shut = shut_again _ _ history of.after of.shut;
        },
  )
