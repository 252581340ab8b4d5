use Rattle.std.proofs.Common.{◌≡◌, ◌≤◌, length, map, take, vec_capacity, vec_len}
use Rattle.block_shelf.specs.Resuming.{AreUsed}
use Rattle.block_shelf.specs.Starting.{buffers_inside}
use Rattle.live_store.specs.Started.{unopened_in}
use Rattle.relay_live.proofs.started.StartedBuffers.used.Given as goal

-- what is said so far is so of the buffers so far, and there is room for all
abbrev pub invariant-loop-unopened : goal.invariant-loop-unopened
invariant-loop-unopened g l = record {
  count : vec_len l.used ≡ l.unopened-index;
  room : length l.self.buffers.items ≤ vec_capacity l.used;
  are : AreUsed (buffers_inside (map unopened_in (take l.unopened-index l.self.buffers.items)))
      l.used.items;
}
