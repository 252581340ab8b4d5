use Rattle.std.proofs.Common.{◌≡◌, ◌≤◌, ◌++◌, length, map}
use Rattle.std.specs.Prelude.{vec_capacity}
use Rattle.relay_live.specs.Locked.{AreInOrder, number_of}
use Rattle.relay_live.proofs.locking.lock_all.Given as goal

-- the values so far are behind locks, which have the numbers of their places, and there is room for
-- the others
abbrev pub invariant-loop-value : goal.invariant-loop-value
invariant-loop-value g l = record {
  all : l.yielded ++ l.value-iterator.rest.items ≡ l.fn.values.items;
  count : length l.locks.items ≡ length l.yielded;
  order : AreInOrder (map number_of l.locks.items);
  room : length l.fn.values.items ≤ vec_capacity l.locks;
}
