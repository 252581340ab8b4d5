use Rattle.std.proofs.Common.{◌≡◌, ◌+◌, ◌≤◌, length, map, take}
use Rattle.std.specs.Prelude.{vec_capacity}
use Rattle.std.specs.Vec.Iter.{into_iter_len}
use Rattle.file_blocks.specs.Store.{count_of}
use Rattle.buffer_files.proofs.files.fit_files.Given as goal

-- a store for each buffer so far, of its blocks, room for the others, and their files
abbrev pub invariant-loop-buffer : goal.invariant-loop-buffer
invariant-loop-buffer l = record {
  room : length l.settings.buffers.items ≤ vec_capacity l.stores;
  count : length l.stores.items ≡ l.buffer-index;
  files : l.buffer-index + into_iter_len l.rest ≡ length l.settings.buffers.items;
  blocks : map count_of l.stores.items
      ≡ map (λ buffer. buffer.blocks) (take l.buffer-index l.settings.buffers.items);
}
