use Rattle.std.proofs.Common.{arith, length}
use Rattle.relay_startup.proofs.Sizes.{same_count}
use Rattle.relay_startup.proofs.completing.complete_first.Goals as goal

-- there is a store for each buffer, of which there are 256 at most
pub completed-requires : goal.completed-requires
completed-requires g c = record {
  few = omega (
    arith,
    same_count (λ store. length (g.S.BlockStore.blocks store)) (λ buffer. buffer.blocks)
        c.args.beginning.stores.items c.args.config.now.buffers.buffers.items c.requires.stores,
    c.args.config.now.buffers.few_buffers,
  );
}
