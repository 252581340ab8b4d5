use Rattle.std.proofs.Common.{◌≡◌, ◌≤◌, length, map, take, vec_len, vec_capacity}
use Rattle.cyc_buffer.specs.Filled.{filled_view}
use Rattle.block_shelf.specs.Filled.{filled_in}
use Rattle.block_shelf.proofs.opening.UnopenedBufferSet.filled.Given as goal

-- the buffers so far are filled so, and there is room for all
abbrev pub invariant-loop-unopened : goal.invariant-loop-unopened
invariant-loop-unopened g l = record {
  count : vec_len l.filled ≡ l.unopened-index;
  room : length l.self.buffers.items ≤ vec_capacity l.filled;
  said : map filled_view l.filled.items
      ≡ map filled_in (take l.unopened-index l.self.buffers.items);
}
