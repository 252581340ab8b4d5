use Rattle.std.proofs.Common.{◌≡◌, ◌≤◌, ◌++◌, length, vec_capacity, vec_len}
use Rattle.block_shelf.specs.Each.{AreEach}
use Rattle.block_shelf.specs.Stopping.{IsStopped, IsStoreOf}
use Rattle.block_shelf.proofs.buffer_set.BufferSet.shut.Given as goal

-- the buffers so far are stopped, or one has failed
abbrev pub invariant-loop-buffer : goal.invariant-loop-buffer
invariant-loop-buffer g l = record {
  all : l.yielded ++ l.buffer-iterator.rest.items ≡ l.fn.self.buffers.items;
  stopped : IsStopped l.fn.stop l.yielded l.failed l.stores.items;
  leaves : AreEach IsStoreOf l.yielded l.stores.items;
  count : vec_len l.stores ≡ length l.yielded;
  room : length l.fn.self.buffers.items ≤ vec_capacity l.stores;
}
