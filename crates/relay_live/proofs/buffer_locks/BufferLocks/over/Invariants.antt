use Rattle.std.proofs.Common.{◌≡◌, ◌≤◌, ◌++◌, length}
use Rattle.relay_live.specs.BufferLocks.{count_in, lock_room, number_room, numbers_in}
use Rattle.relay_live.specs.Locked.{AreInOrder}
use Rattle.relay_live.proofs.buffer_locks.BufferLocks.over.Given as goal

-- the buffers so far are behind locks, which have the numbers of their places, and there is room
-- for the others
abbrev pub invariant-loop-buffer : goal.invariant-loop-buffer
invariant-loop-buffer g l = record {
  all : l.yielded ++ l.buffer-iterator.rest.items ≡ l.fn.buffers.items;
  count : count_in l.row ≡ length l.yielded;
  order : AreInOrder (numbers_in l.row);
  locks : length l.fn.buffers.items ≤ lock_room l.row;
  numbers : length l.fn.buffers.items ≤ number_room l.row;
}
