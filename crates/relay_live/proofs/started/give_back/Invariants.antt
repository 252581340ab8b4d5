use Rattle.std.proofs.Common.{◌≡◌, ◌++◌, map, vec_capacity}
use Rattle.cyc_buffer.specs.Agreement.{store_of}
use Rattle.cyc_buffer.specs.Head.{inside}
use Rattle.live_store.specs.Started.{unopened_in}
use Rattle.relay_live.proofs.started.give_back.Given as goal

-- the stores of those so far are put behind those that were there
abbrev pub invariant-loop-unopened : goal.invariant-loop-unopened
invariant-loop-unopened g l = record {
  all : l.yielded ++ l.unopened-iterator.rest.items ≡ l.fn.buffers.rest.items;
  items : l.stores.items
      ≡ l.fn.room.items ++ map (λ one. store_of (inside (unopened_in one))) l.yielded;
  capacity : vec_capacity l.stores ≡ vec_capacity l.fn.room;
}
