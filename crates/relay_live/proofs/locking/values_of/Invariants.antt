use Rattle.std.proofs.Common.{◌≡◌, ◌≤◌, ◌++◌, length, map}
use Rattle.std.specs.Prelude.{vec_capacity}
use Rattle.relay_live.specs.Locked.{freed_value}
use Rattle.relay_live.proofs.locking.values_of.Given as goal

-- the values so far, and room for the others
abbrev pub invariant-loop-one : goal.invariant-loop-one
invariant-loop-one g l = record {
  all : l.yielded ++ l.one-iterator.rest.items ≡ l.fn.freed.items;
  values : l.values.items ≡ map freed_value l.yielded;
  room : length l.fn.freed.items ≤ vec_capacity l.values;
}
