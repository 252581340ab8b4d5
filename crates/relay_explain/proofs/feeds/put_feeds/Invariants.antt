use Rattle.std.proofs.Common.{flat_map, map, take}
use Rattle.relay_explain.specs.Peers.{feed_text}
use Rattle.relay_explain.specs.Text.{Adds}
use Rattle.relay_explain.proofs.feeds.put_feeds.Given as goal

-- what is told of the feeds so far is there
abbrev pub invariant-loop-feed : goal.invariant-loop-feed
invariant-loop-feed l =
    Adds l.fn.text l.text
    (flat_map (feed_text l.fn.relay (map (λ line. line.now) l.fn.lines))
    (take l.feed-index l.fn.relay.feeds.items))
