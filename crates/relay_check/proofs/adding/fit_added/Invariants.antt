use Rattle.std.proofs.Common.{◌≡◌, ◌+◌, ◌≤◌, drop, length, map, take}
use Rattle.std.specs.Prelude.{vec_capacity}
use Rattle.std.specs.Vec.Iter.{into_iter_len}
use Rattle.file_blocks.specs.Store.{count_of}
use Rattle.relay_check.proofs.adding.fit_added.Given as goal

-- a store for each buffer so far, of its blocks, room for the others, and their files
abbrev pub invariant-loop-number : goal.invariant-loop-number
invariant-loop-number l = record {
  room : length l.settings.buffers.items ≤ vec_capacity l.stores;
  count : length l.stores.items + l.first ≡ l.number;
  files : l.number + into_iter_len l.rest ≡ length l.settings.buffers.items;
  blocks : map count_of l.stores.items
      ≡ map (λ buffer. buffer.blocks) (drop l.first (take l.number l.settings.buffers.items));
}
