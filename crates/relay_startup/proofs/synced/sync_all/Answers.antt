use Rattle.std.proofs.Common.{◌∙◌, All, arith, length, subst}
use Rattle.std.proofs.lemmas.List.{take_all}
use Rattle.std.proofs.Math.Seq.{map-set_same}
use Rattle.std.proofs.lemmas.Grind.{common_steps}
use Rattle.relay_startup.proofs.Uncalled.{uncalled_more}
use Rattle.relay_startup.proofs.synced.sync_all.Goals as goal

-- one that was synced has as many blocks as before,
pub returns-in_err-sync-clause-blocks : goal.returns-in_err-sync-clause-blocks
returns-in_err-sync-clause-blocks g c =
    map-set_same (λ store. length (g.S.BlockStore.blocks store)) c.loop-store.stores
    c.loop-store.store-index c.sync.new.self c.store-item.result
    c.sync.ensures.blocks
    ∙ c.loop-store.invariant.blocks

-- and its device has said so
pub loop-store-preserved : goal.loop-store-preserved
loop-store-preserved g c = record {
  synced = grind (arith, common_steps, c.loop-store.invariant.synced);
  uncalled = uncalled_more g.S.BlockStore _ c.loop-store.stores
      c.loop-store.store-index c.store-item.result c.sync.new.self c.loop-store.invariant.uncalled
      c.sync.ensures.uncalled;
  blocks = map-set_same (λ store. length (g.S.BlockStore.blocks store)) c.loop-store.stores
      c.loop-store.store-index c.sync.new.self c.store-item.result
      c.sync.ensures.blocks
      ∙ c.loop-store.invariant.blocks;
}

pub returns-clause-blocks : goal.returns-clause-blocks
returns-clause-blocks g c = c.loop-store.invariant.blocks

-- one whose device has failed was not called either
pub returns-in_err-sync-clause-uncalled : goal.returns-in_err-sync-clause-uncalled
returns-in_err-sync-clause-uncalled g c =
    uncalled_more g.S.BlockStore _ c.loop-store.stores c.loop-store.store-index c.store-item.result
    c.sync.new.self c.loop-store.invariant.uncalled c.sync.ensures.uncalled

-- all of them are synced
pub returns-clause-synced : goal.returns-clause-synced
returns-clause-synced g c =
    subst (All g.S.Synced.is_synced) (take_all c.loop-store.store-index c.loop-store.stores
    (omega (arith, c.loop-store-test.false, c.loop-store.invariant.uncalled.count)))
    c.loop-store.invariant.synced
