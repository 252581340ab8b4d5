use Rattle.std.proofs.Common.{◌≡◌, ◌≤◌, ℕ, length, map, take, vec_len, vec_capacity}
use Rattle.feed_queue.specs.Feeds.{KeepFeeds, ring_size}
use Rattle.feed_queue.specs.Left.{AreLeft}
use Rattle.id_history.specs.Views.{feed_view}
use Rattle.relay_model.specs.State.{Feed}
use Rattle.feed_queue.proofs.desk.FeedDesk.resume.Given as goal

-- the rings so far keep the feeds of which this was left, and there is room for all
abbrev pub invariant-loop-place : goal.invariant-loop-place
invariant-loop-place l = record {
  count : vec_len l.rings ≡ l.place;
  room : length l.feeds ≤ vec_capacity l.rings;
  keep : (state : ℕ → Feed)
      → AreLeft (map feed_view l.kept) (map ring_size l.feeds) state
      → KeepFeeds l.rings.items (map ring_size (take l.place l.feeds)) state;
}
