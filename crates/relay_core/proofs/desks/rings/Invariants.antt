use Rattle.std.proofs.Common.{◌≡◌, ◌≤◌, length, map, take, vec_len, vec_capacity}
use Rattle.feed_queue.specs.Feeds.{ring_size}
use Rattle.relay_core.proofs.desks.rings.Given as goal

-- the sizes so far are those of the rings, and there is room for all
abbrev pub invariant-loop-feed : goal.invariant-loop-feed
invariant-loop-feed l = record {
  count : vec_len l.rings ≡ l.feed-index;
  room : length l.feeds ≤ vec_capacity l.rings;
  said : l.rings.items ≡ map ring_size (take l.feed-index l.feeds);
}
