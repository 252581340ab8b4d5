use Rattle.std.proofs.Common.{◌≡◌, ◌≤◌, length, map, take}
use Rattle.std.specs.Prelude.{vec_capacity}
use Rattle.file_blocks.specs.Store.{count_of}
use Rattle.relay_check.proofs.looking.see_files.Given as goal

-- a store for each buffer so far, of its blocks, and room for the others
abbrev pub invariant-loop-buffer : goal.invariant-loop-buffer
invariant-loop-buffer g l = record {
  room : length l.settings.buffers.items ≤ vec_capacity l.stores;
  count : length l.stores.items ≡ l.buffer-index;
  blocks : map count_of l.stores.items
      ≡ map (λ buffer. buffer.blocks) (take l.buffer-index l.settings.buffers.items);
}
