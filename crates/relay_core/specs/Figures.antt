-- What the figures of a relay are of, and what its parts tell of them.
use Rattle.std.specs.Prelude.{◌≡◌, ℕ, List, Option, map}
use Rattle.article_verdict.specs.Config.{terms_of}
use Rattle.block_shelf.specs.Keeping.{KeepsTexts}
use Rattle.block_shelf.specs.Openings.{Opening}
use Rattle.block_shelf.specs.declared.buffer_set.BufferSet.{BufferSet}
use Rattle.block_shelf.specs.Leaving.{Trust}
use Rattle.cyc_block.specs.declared.store.BlockStore.{Ghosts}
use Rattle.feed_queue.specs.Feeds.{KeepsFeeds}
use Rattle.feed_queue.specs.declared.desk.FeedDesk.{FeedDesk}
use Rattle.relay_conf.specs.declared.settings.Config.{Config}
use Rattle.relay_model.specs.State.{State}
use Rattle.relay_core.specs.Agreement.{ring_sizes}
use Rattle.relay_core.specs.declared.system.System.{System}
use Rattle.relay_report.specs.Figures.{buffer_view, feed_view, named_buffers, named_feeds}
use Rattle.relay_report.specs.declared.figures.NamedBuffer.{NamedBuffer}
use Rattle.relay_report.specs.declared.figures.NamedFeed.{NamedFeed}

-- what the relay is set up with
abbrev pub config_of : {S : Type 0} {g : Ghosts S} → System S g → Config
config_of system = system.config

-- the buffers of each state whose texts the buffer set keeps
abbrev pub TellBuffers : {S : Type 0} {g : Ghosts S} → Config → BufferSet S g → List NamedBuffer
    → Type 0
TellBuffers config buffer_set named =
    (trusted : Trust) (σ : State) (openings : ℕ → Option Opening) (failures : ℕ → ℕ)
    → KeepsTexts trusted buffer_set (terms_of config) σ.begun σ.kept openings failures
    → map buffer_view named ≡ named_buffers config σ

-- the feeds of each state that the desk keeps
abbrev pub TellFeeds : Config → FeedDesk → List NamedFeed → Type 0
TellFeeds config desk named =
    (σ : State) → KeepsFeeds desk (ring_sizes (terms_of config)) σ.feed
    → map feed_view named ≡ named_feeds config σ
