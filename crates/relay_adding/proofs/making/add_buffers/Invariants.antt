use Rattle.std.proofs.Common.{◌≡◌, ◌≤◌, ◌++◌, length, vec_capacity}
use Rattle.relay_adding.specs.Making.{AreAdded}
use Rattle.relay_adding.proofs.making.add_buffers.Given as goal

-- a buffer was added over each store so far, and there is room for all
abbrev pub invariant-loop-store : goal.invariant-loop-store
invariant-loop-store g l = record {
  all : l.yielded ++ l.store-iterator.rest.items ≡ l.fn.stores.items;
  added : AreAdded g.S.BlockStore l.fn.first l.fn.stop l.yielded l.left.items;
  room : length l.fn.stores.items ≤ vec_capacity l.left;
}
