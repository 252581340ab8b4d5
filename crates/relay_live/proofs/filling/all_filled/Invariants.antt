use Rattle.std.proofs.Common.{◌≡◌, ◌≤◌, length, map, take, vec_len, vec_capacity}
use Rattle.block_shelf.specs.Filled.{filled_in}
use Rattle.cyc_buffer.specs.Filled.{filled_view}
use Rattle.live_store.specs.Started.{unopened_in}
use Rattle.relay_live.proofs.filling.all_filled.Given as goal

-- the buffers so far are filled so, and there is room for all
abbrev pub invariant-loop-unopened : goal.invariant-loop-unopened
invariant-loop-unopened g l = record {
  count : vec_len l.filled ≡ l.unopened-index;
  room : length l.started.buffers.items ≤ vec_capacity l.filled;
  said : map filled_view l.filled.items
      ≡ map filled_in (map unopened_in (take l.unopened-index l.started.buffers.items));
}
