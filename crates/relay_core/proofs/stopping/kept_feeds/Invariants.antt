use Rattle.std.proofs.Common.{◌≡◌, ◌≤◌, ◌<◌, ◌^◌, ℕ, All, List, length, map, vec_len, vec_capacity}
use Rattle.feed_queue.specs.Feeds.{KeepsFeeds}
use Rattle.id_history.specs.Views.{feed_view}
use Rattle.id_history.specs.declared.kept.KeptFeed.{KeptFeed}
use Rattle.relay_model.specs.State.{Feed}
use Rattle.relay_core.proofs.Stops.{AreLeftSoFar}
use Rattle.relay_core.proofs.stopping.kept_feeds.Given as goal

-- this is left of the feeds so far, and there is room for all
abbrev pub invariant-loop-number : goal.invariant-loop-number
invariant-loop-number l = record {
  count : vec_len l.kept ≤ l.number;
  room : l.count ≤ vec_capacity l.kept;
  waits : All (λ (feed : KeptFeed). length feed.waiting.items < 2 ^ 32) l.kept.items;
  left : (sizes : List ℕ) (feed : ℕ → Feed) → KeepsFeeds l.desk sizes feed
      → length sizes ≡ l.count → AreLeftSoFar l.number (map feed_view l.kept.items) sizes feed;
}
