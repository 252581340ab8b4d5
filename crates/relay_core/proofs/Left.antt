-- A relay over stores that a crash may leave.
use Rattle.std.proofs.Common.{ℕ, true, false, List, Option}
use Rattle.std.proofs.lemmas.Bool.{false≢true}
use Rattle.std.proofs.lemmas.List.Elements.{All-weaker}
use Rattle.std.specs.List.{All}
use Rattle.article_verdict.specs.Config.{terms_of}
use Rattle.block_shelf.specs.Keeping.{KeepsTexts}
use Rattle.block_shelf.specs.Leaving.{IsFresh, Trust, honestly}
use Rattle.block_shelf.specs.Openings.{Opening}
use Rattle.block_shelf.specs.declared.buffer_set.BufferSet.{BufferSet}
use Rattle.cyc_block.specs.declared.store.BlockStore.{Ghosts}
use Rattle.news_terms.specs.Courses.{Course}
use Rattle.relay_model.specs.State.{Kept}
use Rattle.relay_model.specs.Terms.{Terms}
use Rattle.relay_model.specs.World.{World}
use Rattle.relay_core.specs.Agreement.{Agrees, AgreesAs, AgreesLeft}
use Rattle.relay_core.specs.Openings.{openings}
use Rattle.relay_core.specs.declared.system.System.{System}

-- fresh stores are honest
pub all_honest : {S : Type 0} (g : Ghosts S) (stores : List S) → All (IsFresh g) stores
    → All g.honest stores
all_honest g stores fresh =
    All-weaker (IsFresh g) g.honest (λ store one. one.honest) stores fresh

-- what a buffer set keeps over stores that a crash may leave it keeps over honest ones
texts_kept : {S : Type 0} {g : Ghosts S} {buffer_set : BufferSet S g} {w : Terms}
    {begun : ℕ → Course} {kept : List Kept} {open_ones : ℕ → Option Opening} {failures : ℕ → ℕ}
    → KeepsTexts (honestly true) buffer_set w begun kept open_ones failures
    → KeepsTexts (honestly false) buffer_set w begun kept open_ones failures
texts_kept keeps = record {
  sound = keeps.sound;
  numbered = keeps.numbered;
  fit = keeps.fit;
  laid = keeps.laid;
  opened = keeps.opened;
  count = keeps.count;
  buffers = λ b buffer at. record {
    has = (keeps.buffers b buffer at).has;
    left = λ sure never. absurd (false≢true never);
  };
  placed_group_count = keeps.placed_group_count;
  placed_groups = keeps.placed_groups;
}

-- so a relay that agrees with a world, and whose stores a crash may leave, agrees with it
pub left_agrees : {S : Type 0} {g : Ghosts S} (system : System S g) (x : World)
    → AgreesLeft system x → Agrees true system x
left_agrees system x agrees = record {
  core = record {
    newest = agrees.core.newest;
    claims = agrees.core.claims;
    count = agrees.core.count;
    group_writers = agrees.core.group_writers;
    desk = agrees.core.desk;
    buffer_set = texts_kept agrees.core.buffer_set;
    expirer = agrees.core.expirer;
  };
  peers = agrees.peers;
  well = agrees.well;
}

-- with another buffer set, that keeps what it kept, it agrees with the same world
pub still_agrees : {S : Type 0} {g : Ghosts S} {trusted : Trust} (old : System S g)
    (buffer_set : BufferSet S g) (x : World) → AgreesAs trusted old x
    → KeepsTexts trusted buffer_set (terms_of old.config) x.state.begun x.state.kept
    (openings x.work.writer) x.work.failures
    → AgreesAs trusted (record old { buffer_set = buffer_set }) x
still_agrees old buffer_set x agrees keeps = record {
  core = record {
    newest = agrees.core.newest;
    claims = agrees.core.claims;
    count = agrees.core.count;
    group_writers = agrees.core.group_writers;
    desk = agrees.core.desk;
    buffer_set = keeps;
    expirer = agrees.core.expirer;
  };
  peers = agrees.peers;
  well = agrees.well;
}
