use Rattle.std.proofs.Common.{◌<◌, ◌+◌, ◌^◌, ℕ, List, take}
use Rattle.std.specs.List.{All}
use Rattle.cyc_token.specs.Token.{token_view}
use Rattle.feed_queue.specs.Feeds.{KeepsFeeds, CountBelow, HasRoomToCount}
use Rattle.relay_model.specs.State.{Feed}
use Rattle.relay_model.specs.Writers.{gaining}
use Rattle.feed_queue.proofs.desk.FeedDesk.post.Given as goal

-- the feeds so far have gained the token, once each, all of them below `above`
abbrev pub invariant-loop-place : goal.invariant-loop-place
invariant-loop-place l = record {
  below : All (λ other. other < l.above) (take l.place l.permitted);
  counts : HasRoomToCount l.fn.self → CountBelow l.self.rings.items (2 ^ 62 + l.place);
  keeps : (sizes : List ℕ) (feed : ℕ → Feed) → HasRoomToCount l.fn.self
      → KeepsFeeds l.fn.self sizes feed
      → KeepsFeeds l.self sizes (gaining feed (take l.place l.permitted) (token_view l.token));
}
