-- The figures of a relay in threads, by name (docs/FORMATS.md, Report).
use Rattle.std.specs.Prelude.{◌≡◌, ◌-◌, Option, None, Some, map, slice_get}
use Rattle.feed_queue.specs.declared.desk.Counts.{Counts}
use Rattle.relay_conf.specs.declared.settings.Config.{Config}
use Rattle.relay_report.specs.Figures.{name_of}
use Rattle.relay_report.specs.declared.figures.Figures.{Figures}
use Rattle.relay_model.specs.Figures.{FeedFigures}

-- the figures are of the buffers and of the feeds of a configuration, in their order
pub record HasNames (config : Config) (figures : Figures) : Type 0 where
  pub buffers : map (λ b. b.name) figures.buffers.items
      ≡ map (λ b. b.name) config.buffers.buffers.items
  pub feeds : map (λ f. f.peer) figures.feeds.items
      ≡ map (λ f. name_of (slice_get config.relay.peers.items f.peer)) config.relay.feeds.items

-- the figures of a feed with these counts: what was gained, and neither was taken nor waits, was
-- overwritten; a feed without counts gained nothing
abbrev pub figures_by : Option Counts → FeedFigures
figures_by None = record { waiting = 0; gained = 0; overwritten = 0 }
figures_by (Some counts) =
    record {
      waiting = counts.waiting;
      gained = counts.gained;
      overwritten = counts.gained - counts.taken - counts.waiting;
    }
