use Rattle.std.proofs.Common.{◌≡◌, ◌≤◌, ◌++◌, length, vec_capacity}
use Rattle.block_shelf.specs.Filling.{AreNewOver}
use Rattle.block_shelf.proofs.filling.new_buffers.Given as goal

-- the buffers so far are new ones over the stores so far, and there is room for all
abbrev pub invariant-loop-store : goal.invariant-loop-store
invariant-loop-store g l = record {
  all : l.yielded ++ l.store-iterator.rest.items ≡ l.fn.stores.items;
  over : AreNewOver l.yielded l.buffers.items;
  room : length l.fn.stores.items ≤ vec_capacity l.buffers;
}
