-- The feeds of a history that holds can be kept by a desk that counts its posts.
use Rattle.std.proofs.Common.{◌≤◌, ◌^◌, ℕ, List, [], ◌∷◌, arith, length, map}
use Rattle.std.specs.List.{AllZip}
use Rattle.feed_queue.specs.Feeds.{ring_size}
use Rattle.id_history.specs.History as texts
use Rattle.id_history.specs.History.{FeedHolds, Holds, KeptFeed}
use Rattle.live_jobs.specs.Posting.{most_gained}
use Rattle.relay_conf.specs.declared.settings.Config.{Config}
use Rattle.relay_core.specs.Desks.{setting_of}

-- none gained more than a desk counts
pub few_gained : (config : Config) (kept : texts.Kept) → Holds (setting_of config) kept
    → most_gained kept.feeds ≤ 2 ^ 62
few_gained config kept holds =
    by (length config.buffers.buffers.items) kept.feeds (map ring_size config.relay.feeds.items)
    holds.feeds
  where
    by : (buffers : ℕ) (feeds : List KeptFeed) (sizes : List ℕ)
        → AllZip (FeedHolds buffers) feeds sizes → most_gained feeds ≤ 2 ^ 62
    by buffers [] sizes all = omega arith
    by buffers (feed ∷ feeds) [] all = absurd all
    by buffers (feed ∷ feeds) (size ∷ sizes) all =
        let one = all.0.gained in
        let rest = by buffers feeds sizes all.1 in
        omega (arith, one, rest)
