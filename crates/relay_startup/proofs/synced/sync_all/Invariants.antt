use Rattle.std.proofs.Common.{◌≡◌, All, length, map, take}
use Rattle.block_shelf.specs.Each.{AreEach}
use Rattle.buffer_files.specs.Synced.{IsUncalled}
use Rattle.relay_startup.proofs.synced.sync_all.Given as goal

-- the device of each store so far has said that it took all; no block was asked for, and all have
-- as many as before
abbrev pub invariant-loop-store : goal.invariant-loop-store
invariant-loop-store g l = record {
  synced : All g.S.Synced.is_synced (take l.store-index l.stores);
  uncalled : AreEach (IsUncalled g.S.BlockStore) l.fn.stores l.stores;
  blocks : map (λ store. length (g.S.BlockStore.blocks store)) l.stores
      ≡ map (λ store. length (g.S.BlockStore.blocks store)) l.fn.stores;
}
