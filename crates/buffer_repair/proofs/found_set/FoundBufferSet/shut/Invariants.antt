use Rattle.std.proofs.Common.{◌≡◌, ◌≤◌, ◌++◌, length, vec_capacity, vec_len}
use Rattle.buffer_repair.specs.Shutting.{AreShutTo}
use Rattle.buffer_repair.proofs.found_set.FoundBufferSet.shut.Given as goal

-- the buffers so far are shut, or one has failed
abbrev pub invariant-loop-one : goal.invariant-loop-one
invariant-loop-one g l = record {
  all : l.yielded ++ l.one-iterator.rest.items ≡ l.fn.self.found.items;
  shut : AreShutTo l.fn.stop l.yielded l.failed l.stores.items;
  count : vec_len l.stores ≡ length l.yielded;
  room : length l.fn.self.found.items ≤ vec_capacity l.stores;
}
