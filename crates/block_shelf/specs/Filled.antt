-- How far the buffers of a relay are filled, by its state, by the buffers themselves and by what
-- heads say (docs/PROTOCOL.md, Clean stop and start).
use Rattle.std.specs.Prelude.{◌≡◌, ℕ, List, map}
use Rattle.cyc_block.specs.declared.store.BlockStore.{Ghosts}
use Rattle.cyc_buffer.specs.Filled.{Filled, filled_by}
use Rattle.cyc_buffer.specs.Head.{inside, said_of, stop_of}
use Rattle.cyc_buffer.specs.Stopped.{Says}
use Rattle.cyc_buffer.specs.declared.unopened.Unopened.{Unopened}
use Rattle.news_terms.specs.HeadBlocks.{HeadBlock, Closed}
use Rattle.news_terms.specs.Places.{Buffer}
use Rattle.relay_model.specs.Fetches.{front_of}
use Rattle.relay_model.specs.Figures.{buffer_figures}
use Rattle.relay_model.specs.State.{State}
use Rattle.relay_model.specs.Terms.{Terms}
use Rattle.block_shelf.specs.Starting.{buffer_over}

-- by the state
abbrev pub filled_at : Terms → State → Buffer → Filled
filled_at w σ buffer = record {
  blocks = buffer.blocks;
  front = front_of w σ buffer;
  stored = (buffer_figures w σ buffer).stored;
}

-- of all buffers, in the order of their numbers
abbrev pub filled_of : Terms → State → List Filled
filled_of w σ = map (filled_at w σ) w.buffers

-- by a started buffer, as its head block would say it
abbrev pub filled_in : {S : Type 0} {g : Ghosts S} → Unopened S g → Filled
filled_in one = filled_by (said_of Closed (stop_of (inside one)) (inside one))

-- head block 0 of the store of a buffer that was stopped says that it is filled so far
pub record HeadSays {S : Type 0} (g : Ghosts S) (number : ℕ) (store : S) (filled : Filled) : Type 0
  where
    pub said : HeadBlock
    pub says : Says (g.heads store) (buffer_over g number store) said
    pub closed : said.state ≡ Closed
    pub is : filled ≡ filled_by said

-- so an honest one does
abbrev pub IsFilledAs : {S : Type 0} (g : Ghosts S) → (number : ℕ) → S → Filled → Type 0
IsFilledAs g number store filled = g.honest store → HeadSays g number store filled
