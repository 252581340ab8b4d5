use Rattle.std.proofs.Common.{◌≡◌, ◌≤◌, ◌++◌, length, map}
use Rattle.std.specs.Prelude.{vec_capacity}
use Rattle.relay_live.specs.BufferLocks.{count_in, numbers_in, numbers_left}
use Rattle.relay_live.specs.Locked.{freed_number}
use Rattle.relay_live.proofs.buffer_locks.BufferLocks.free.Given as goal

-- the locks that are left become fewer
abbrev pub decreases-loop-freed : goal.decreases-loop-freed
decreases-loop-freed g l = length (numbers_left l.left)

-- the buffers of the locks so far have their numbers, and there is room for the others
abbrev pub invariant-loop-freed : goal.invariant-loop-freed
invariant-loop-freed g l = record {
  numbers : map freed_number l.values.items ++ numbers_left l.left ≡ numbers_in l.fn.self;
  room : count_in l.fn.self ≤ vec_capacity l.values;
}
