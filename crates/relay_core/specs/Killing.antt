-- What is left of a relay whose program is killed (docs/PROTOCOL.md, Crashes).
use Rattle.std.specs.Prelude.{Bool, List}
use Rattle.article_verdict.specs.Config.{terms_of}
use Rattle.block_shelf.specs.Killing.{NoneFailed}
use Rattle.block_shelf.specs.Leaving.{AreLeftOf, is_whole}
use Rattle.cyc_block.specs.declared.store.BlockStore.{Ghosts}
use Rattle.news_terms.specs.Token.{Token}
use Rattle.relay_model.specs.Invariants.{IsWell}
use Rattle.relay_model.specs.Terms.{Terms}
use Rattle.relay_model.specs.World.{World}
use Rattle.relay_core.specs.Agreement.{AgreesLeft}
use Rattle.relay_core.specs.Openings.{openings}
use Rattle.relay_core.specs.declared.system.System.{System}

-- The stores may be what a crash has left of a relay that was in this world, under these settings;
-- each text that was saved had to be left.
pub record IsLeftBy {S : Type 0} (g : Ghosts S) (stores : List S) (w : Terms)
    (saved : Token → Bool) (x : World)
    : Type 0 where
  pub well : IsWell w x
  pub left : AreLeftOf g stores w x.state.begun x.state.kept (openings x.work.writer) saved

-- The stores of a relay that is killed may be what a crash has left of each world that it agreed
-- with, over stores that a crash may leave, and in which no device has failed; with each text that
-- is whole and not gone.
abbrev pub LeavesKilled : {S : Type 0} {g : Ghosts S} → System S g → List S → Type 0
LeavesKilled {g = g} old stores =
    (x : World) → AgreesLeft old x → NoneFailed (terms_of old.config) x.work.failures
    → IsLeftBy g stores (terms_of old.config) (is_whole (terms_of old.config) x.state) x
