use Rattle.std.proofs.Common.{length}
use Rattle.relay_startup.proofs.Sizes.{given_back}
use Rattle.relay_startup.proofs.completing.completed.Goals as goal

-- each store has as many blocks as it had
pub returns-in-Ok-clause-blocks : goal.returns-in-Ok-clause-blocks
returns-in-Ok-clause-blocks g c =
    given_back (λ store. length (g.S.BlockStore.blocks store)) c.args.stores.items
    c.deref_mut.result.now c.complete.new.stores _ c.args.stores.len c.args.stores.ok.0
    c.deref_mut.ensures.value c.in-Ok.ensures.blocks
