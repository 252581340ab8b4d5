use Rattle.std.proofs.Common.{◌≡◌, ◌++◌, map, vec_capacity}
use Rattle.buffer_repair.specs.Parts.{store_in}
use Rattle.buffer_repair.proofs.giving.give_found.Given as goal

-- the stores of those so far are put behind those that were there
abbrev pub invariant-loop-one : goal.invariant-loop-one
invariant-loop-one g l = record {
  all : l.yielded ++ l.one-iterator.rest.items ≡ l.fn.found.items;
  items : l.stores.items ≡ l.fn.room.items ++ map (λ one. store_in one) l.yielded;
  capacity : vec_capacity l.stores ≡ vec_capacity l.fn.room;
}
