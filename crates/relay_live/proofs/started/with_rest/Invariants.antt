use Rattle.std.proofs.Common.{◌≡◌, ◌++◌, vec_capacity}
use Rattle.relay_live.specs.Trials.{stores_in}
use Rattle.relay_live.proofs.started.with_rest.Given as goal

-- those so far are put behind those that were there
abbrev pub invariant-loop-slot : goal.invariant-loop-slot
invariant-loop-slot g l = record {
  all : l.yielded ++ l.slot-iterator.rest.items ≡ l.fn.left.rest.items;
  items : l.stores.items ≡ l.fn.stores.items ++ stores_in l.yielded;
  capacity : vec_capacity l.stores ≡ vec_capacity l.fn.stores;
}
