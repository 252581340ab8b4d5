use Rattle.std.proofs.Common.{◌≡◌, ◌++◌, map, vec_capacity}
use Rattle.relay_live.specs.Trials.{untried}
use Rattle.relay_live.proofs.side_by_side.untried_all.Given as goal

-- those so far are put behind those that were there
abbrev pub invariant-loop-store : goal.invariant-loop-store
invariant-loop-store g l = record {
  all : l.yielded ++ l.store-iterator.rest.items ≡ l.fn.stores.items;
  items : l.slots.items ≡ l.fn.room.items ++ map untried l.yielded;
  capacity : vec_capacity l.slots ≡ vec_capacity l.fn.room;
}
