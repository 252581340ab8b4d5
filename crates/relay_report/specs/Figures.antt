-- What the report says of the relay (docs/FORMATS.md, Report): the figures of each buffer and of
-- each feed, by their names, and how many message-ids are known of each kind.
use Rattle.std.specs.Prelude.{◌≡◌, ℕ, List, [], map, slice_get, Option, None, Some}
use Rattle.std.specs.List.{enumerate_from}
use Rattle.article_verdict.specs.Config.{terms_of}
use Rattle.block_shelf.specs.Figures.{figures_view}
use Rattle.id_history.specs.Counts.{CountsOf}
use Rattle.relay_conf.specs.Places.{numbered_buffer}
use Rattle.relay_conf.specs.declared.cycbuff.BufferConf.{BufferConf}
use Rattle.relay_conf.specs.declared.relay.Feed.{Feed}
use Rattle.relay_conf.specs.declared.relay.Peer.{Peer}
use Rattle.relay_conf.specs.declared.settings.Config.{Config}
use Rattle.relay_model.specs.Figures as model
use Rattle.relay_model.specs.Figures.{buffer_figures, feed_figures}
use Rattle.relay_model.specs.State.{State}
use Rattle.relay_report.specs.declared.figures.FeedFigures.{FeedFigures}
use Rattle.relay_report.specs.declared.figures.Figures.{Figures}
use Rattle.relay_report.specs.declared.figures.NamedBuffer as buffers
use Rattle.relay_report.specs.declared.figures.NamedFeed as feeds

-- a buffer's name, with its figures
pub record NamedBuffer : Type 0 where
  pub name : List ℕ
  pub figures : model.BufferFigures

-- the name of a feed's peer, with the feed's figures
pub record NamedFeed : Type 0 where
  pub peer : List ℕ
  pub figures : model.FeedFigures

-- the name of a peer; one that isn't there has none
abbrev pub name_of : Option Peer → List ℕ
name_of None = []
name_of (Some peer) = peer.name

-- the buffer of this number, by the state
abbrev pub named_buffer : Config → State → ℕ × BufferConf → NamedBuffer
named_buffer config σ one =
    record {
      name = one.1.name;
      figures = buffer_figures (terms_of config) σ (numbered_buffer one);
    }

-- the feed of this number, by the state
abbrev pub named_feed : Config → State → ℕ × Feed → NamedFeed
named_feed config σ one =
    record {
      peer = name_of (slice_get config.relay.peers.items one.1.peer);
      figures = feed_figures one.1.ring (σ.feed one.0);
    }

-- the buffers of the configuration in their order, by the state
abbrev pub named_buffers : Config → State → List NamedBuffer
named_buffers config σ =
    map (named_buffer config σ) (enumerate_from 0 config.buffers.buffers.items)

-- the feeds of the configuration in their order, by the state
abbrev pub named_feeds : Config → State → List NamedFeed
named_feeds config σ = map (named_feed config σ) (enumerate_from 0 config.relay.feeds.items)

-- a buffer of the code as the definitions have it
abbrev pub buffer_view : buffers.NamedBuffer → NamedBuffer
buffer_view buffer = record { name = buffer.name; figures = figures_view buffer.figures }

-- figures of a feed as the definitions have them
abbrev pub feed_figures_view : FeedFigures → model.FeedFigures
feed_figures_view figures =
    record {
      waiting = figures.waiting;
      gained = figures.gained;
      overwritten = figures.overwritten;
    }

-- a feed of the code as the definitions have it
abbrev pub feed_view : feeds.NamedFeed → NamedFeed
feed_view feed = record { peer = feed.peer; figures = feed_figures_view feed.figures }

-- these are the figures of a relay of this configuration in this state
pub record AreFigures (config : Config) (σ : State) (figures : Figures) : Type 0 where
  pub buffers : map buffer_view figures.buffers.items ≡ named_buffers config σ
  pub feeds : map feed_view figures.feeds.items ≡ named_feeds config σ
  pub ids : CountsOf σ.claim figures.ids
