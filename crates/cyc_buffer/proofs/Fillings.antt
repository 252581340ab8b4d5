-- How far a buffer is filled, and the histories that it agrees with.
use Rattle.std.proofs.Common.{◌≡◌, ◌∙◌, ℕ, Bool, ap, arith, sym}
use Rattle.cyc_block.specs.declared.store.BlockStore.{Ghosts}
use Rattle.news_terms.specs.HeadBlocks.{HeadState}
use Rattle.news_terms.specs.Places as places
use Rattle.news_terms.specs.Places.{on_line}
use Rattle.cyc_buffer.specs.Agreement.{Agrees}
use Rattle.cyc_buffer.specs.Filled.{filled_by, filled_with}
use Rattle.cyc_buffer.specs.Head.{said_of}
use Rattle.cyc_buffer.specs.History.{History}
use Rattle.cyc_buffer.specs.declared.buffer.Buffer.{Buffer}

-- what its head block would say is what each of them says
pub filled_so : {S : Type 0} {g : Ghosts S} (state : HeadState) (stop : ℕ) (buffer : Buffer S g)
    (trusted : Bool) (h : History) → Agrees trusted buffer h
    → filled_by (said_of state stop buffer) ≡ filled_with h
filled_so state stop buffer trusted h agrees =
    let keeps = agrees.keeps in
    λ i. record {
      blocks = (sym (ap (λ (b : places.Buffer). b.blocks) keeps.buffer)) i;
      front = on_line ((sym (ap (λ (b : places.Buffer). b.blocks) keeps.buffer)) i)
          (keeps.cycle i) (keeps.used i);
      stored = keeps.stored i;
    }
