use Rattle.std.proofs.Common.{◌≡◌, ◌+◌, drop, map}
use Rattle.std.specs.Prelude.{◌==◌}
use Rattle.std.specs.List.{position_or_len}
use Rattle.feed_queue.specs.Permission.{feed_view}
use Rattle.relay_model.specs.Terms.{FeedTerms}
use Rattle.peer_session.proofs.lines.feed_place.Given as goal

-- no feed so far is of the peer
abbrev pub invariant-loop-place : goal.invariant-loop-place
invariant-loop-place l =
    position_or_len (λ (feed : FeedTerms). feed.peer == l.peer) (map feed_view l.feeds)
    ≡ l.place + position_or_len (λ (feed : FeedTerms). feed.peer == l.peer)
    (map feed_view (drop l.place l.feeds))
