use Rattle.std.proofs.Common.{◌≡◌, ◌++◌, map, vec_capacity}
use Rattle.cyc_buffer.specs.Agreement.{store_of}
use Rattle.live_store.specs.Steps.{buffer_of}
use Rattle.relay_live.proofs.started.give_up.Given as goal

-- the stores of those so far are put behind those that were there
abbrev pub invariant-loop-buffer : goal.invariant-loop-buffer
invariant-loop-buffer g l = record {
  all : l.yielded ++ l.buffer-iterator.rest.items ≡ l.fn.buffers.items;
  items : l.stores.items ≡ l.fn.room.items ++ map (λ one. store_of (buffer_of one)) l.yielded;
  capacity : vec_capacity l.stores ≡ vec_capacity l.fn.room;
}
