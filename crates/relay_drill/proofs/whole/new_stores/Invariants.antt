use Rattle.std.proofs.Common.{◌≡◌, ◌≤◌, length, take}
use Rattle.std.specs.Prelude.{vec_capacity}
use Rattle.relay_drill.specs.Stores.{AreStoresOf}
use Rattle.relay_drill.proofs.Stores.{seen}
use Rattle.relay_drill.proofs.whole.new_stores.Given as goal

-- the stores so far are those of the buffers so far; there is room for the others
abbrev pub invariant-loop-buffer : goal.invariant-loop-buffer
invariant-loop-buffer l = record {
  room : length l.buffers ≤ vec_capacity l.stores;
  count : length l.stores.items ≡ l.buffer-index;
  made : AreStoresOf seen (take l.buffer-index l.buffers) l.stores.items;
}
