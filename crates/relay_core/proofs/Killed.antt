-- What the stores are of a relay that is killed.
use Rattle.std.proofs.Common.{◌≡◌, true, List, subst, sym}
use Rattle.article_verdict.specs.Config.{terms_of}
use Rattle.block_shelf.specs.Keeping.{KeepsTexts}
use Rattle.block_shelf.specs.Killing.{LeavesStores}
use Rattle.block_shelf.specs.declared.buffer_set.BufferSet.{BufferSet}
use Rattle.block_shelf.specs.Leaving.{honestly}
use Rattle.cyc_block.specs.declared.store.BlockStore.{Ghosts}
use Rattle.relay_core.specs.Killing.{LeavesKilled}
use Rattle.relay_core.specs.Openings.{openings}
use Rattle.relay_core.specs.declared.system.System.{System}

-- a crash may leave those of its buffers
pub leaves_killed : {S : Type 0} {g : Ghosts S} (old : System S g) (buffer_set : BufferSet S g)
    (stores : List S) → buffer_set ≡ old.buffer_set → LeavesStores buffer_set stores
    → LeavesKilled old stores
leaves_killed {S} {g} old buffer_set stores same leaves x agrees none = record {
  well = agrees.well;
  left = leaves (terms_of old.config) x.state (openings x.work.writer) x.work.failures
      (subst (λ (one : BufferSet S g). KeepsTexts (honestly true) one (terms_of old.config)
      x.state.begun
      x.state.kept (openings x.work.writer) x.work.failures) (sym same) agrees.core.buffer_set)
      none agrees.well.on_record.kept;
}
