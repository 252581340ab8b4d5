use Rattle.std.proofs.Common.{◌≡◌, ◌++◌, ◌+◌, ◌≤◌, true, All, length}
use Rattle.std.specs.Prelude.{vec_capacity}
use Rattle.std.specs.Vec.Iter.{into_iter_len, into_iter_items}
use Rattle.block_shelf.specs.Each.{AreEach}
use Rattle.relay_live.specs.Beginning.{IsNewOver}
use Rattle.relay_live.proofs.making.new_buffers.Given as goal

-- a new buffer over each store so far, which all stores begin with, room for the others, and these
-- are honest where they are trusted
abbrev pub invariant-loop-store : goal.invariant-loop-store
invariant-loop-store g l = record {
  all : l.yielded ++ into_iter_items l.store-iterator ≡ l.fn.stores.items;
  over : AreEach IsNewOver l.yielded l.buffers.items;
  count : length l.buffers.items + into_iter_len l.store-iterator ≡ length l.fn.stores.items;
  room : length l.fn.stores.items ≤ vec_capacity l.buffers;
  honest : g.J.StorePremises.trusted ≡ true
      → All g.S.BlockStore.honest (into_iter_items l.store-iterator);
}
