use Rattle.std.proofs.Common.{◌≡◌, ℕ, ◌+◌, ◌<◌, length}
use Rattle.news_terms.specs.HeadBlocks.{bitmap_block}
use Rattle.cyc_block.specs.Store.{block_at}
use Rattle.cyc_buffer.specs.Marks.{is_told}
use Rattle.cyc_buffer.proofs.stopping.write_bitmap.Given as goal

-- the blocks so far are those of the bitmap, over an honest store, which keeps all others
abbrev pub invariant-loop-i : goal.invariant-loop-i
invariant-loop-i g l = record {
  bitmap : g.S.BlockStore.honest l.fn.store → (k : ℕ) → k < l.i
      → block_at (g.S.BlockStore.heads l.store) (1 + k)
      ≡ bitmap_block
      (is_told l.fn.buffer_state.starts.words.items (length (g.S.BlockStore.blocks l.fn.store))) k;
  first : g.S.BlockStore.honest l.fn.store
      → block_at (g.S.BlockStore.heads l.store) 0 ≡ block_at (g.S.BlockStore.heads l.fn.store) 0;
  room : g.S.BlockStore.honest l.fn.store
      → length (g.S.BlockStore.heads l.store) ≡ length (g.S.BlockStore.heads l.fn.store);
  blocks : g.S.BlockStore.honest l.fn.store
      → g.S.BlockStore.blocks l.store ≡ g.S.BlockStore.blocks l.fn.store;
  honest : g.S.BlockStore.honest l.fn.store → g.S.BlockStore.honest l.store;
  count : length (g.S.BlockStore.blocks l.store) ≡ length (g.S.BlockStore.blocks l.fn.store);
  calls : g.S.BlockStore.calls l.store ≡ g.S.BlockStore.calls l.fn.store + l.i;
  failures : g.S.BlockStore.failures l.store ≡ g.S.BlockStore.failures l.fn.store;
}
