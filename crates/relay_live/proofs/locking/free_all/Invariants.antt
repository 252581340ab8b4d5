use Rattle.std.proofs.Common.{◌≡◌, ◌≤◌, ◌++◌, length, map}
use Rattle.std.specs.Prelude.{vec_capacity}
use Rattle.relay_live.specs.Locked.{freed_number, number_of}
use Rattle.relay_live.proofs.locking.free_all.Given as goal

-- the values of the locks so far have their numbers, and there is room for the others
abbrev pub invariant-loop-locked : goal.invariant-loop-locked
invariant-loop-locked g l = record {
  all : l.yielded ++ l.locked-iterator.rest.items ≡ l.fn.locks.items;
  numbers : map freed_number l.values.items ≡ map number_of l.yielded;
  room : length l.fn.locks.items ≤ vec_capacity l.values;
}
