use Rattle.std.proofs.Common.{◌≡◌, ◌≤◌, length, map, take, vec_len, vec_capacity}
use Rattle.feed_queue.specs.Feeds.{KeepFeeds, ring_size, no_feed}
use Rattle.feed_queue.proofs.desk.FeedDesk.new.Given as goal

-- the rings so far keep feeds that gained nothing, and there is room for all
abbrev pub invariant-loop-feed : goal.invariant-loop-feed
invariant-loop-feed l = record {
  count : vec_len l.rings ≡ l.feed-index;
  room : length l.feeds ≤ vec_capacity l.rings;
  keep : KeepFeeds l.rings.items (map ring_size (take l.feed-index l.feeds)) (λ f. no_feed);
}
