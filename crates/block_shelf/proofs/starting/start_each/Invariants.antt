use Rattle.std.proofs.Common.{◌≡◌, ◌≤◌, ◌++◌, length}
use Rattle.block_shelf.specs.Starting.{HasTried, tried_count, tried_room}
use Rattle.block_shelf.proofs.starting.start_each.Given as goal

-- the buffers so far are started, or one was refused
abbrev pub invariant-loop-store : goal.invariant-loop-store
invariant-loop-store g l = record {
  all : l.yielded ++ l.store-iterator.rest.items ≡ l.fn.stores.items;
  tried : HasTried l.fn.stop l.yielded l.starting;
  count : tried_count l.starting ≡ length l.yielded;
  room : length l.fn.stores.items ≤ tried_room l.starting;
}
