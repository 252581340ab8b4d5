-- How far a buffer is filled (docs/PROTOCOL.md, Clean stop and start).
use Rattle.std.specs.Prelude.{ℕ}
use Rattle.news_terms.specs.HeadBlocks.{HeadBlock}
use Rattle.news_terms.specs.Places.{on_line}
use Rattle.cyc_buffer.specs.History.{History, front_of, stored_count}
use Rattle.cyc_buffer.specs.declared.filled.Filled as code

-- how far a buffer is filled: its blocks, where its front lies on their endless line, and how many
-- articles are stored in it
pub record Filled : Type 0 where
  pub blocks : ℕ
  pub front : ℕ
  pub stored : ℕ

-- by what a head block says
abbrev pub filled_by : HeadBlock → Filled
filled_by said = record {
  blocks = said.blocks;
  front = on_line said.blocks said.cycle said.head;
  stored = said.stored;
}

-- with this history
abbrev pub filled_with : History → Filled
filled_with h =
    record { blocks = h.buffer.blocks; front = front_of h; stored = stored_count h.begins }

-- as the code has it
abbrev pub filled_view : code.Filled → Filled
filled_view one = record { blocks = one.blocks; front = one.front; stored = one.stored }
