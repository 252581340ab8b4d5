use Rattle.std.proofs.Common.{arith}
use Rattle.std.specs.Vec.Iter.{into_iter_items}
use Rattle.relay_conf.specs.RelayDraft.{numbered_feed}
use Rattle.relay_conf.proofs.Numbered.{map_next, map_done}
use Rattle.relay_conf.proofs.peers.numbered.Goals as goal

pub loop-feed-preserved : goal.loop-feed-preserved
loop-feed-preserved c =
    map_next (numbered_feed c.args.peers.now) c.loop-feed.feeds.items c.push.new.self.items
    (into_iter_items c.loop-feed.feed-iterator) (into_iter_items c.next.new.self)
    c.args.named.items c.in-Some.feed c.in-Some.ensures.steps.0
    (rw (c.number_of-peer.ensures, c.as_slice.ensures) at c.in_ok-push.ensures.items)
    c.loop-feed.invariant

pub returns : goal.returns
returns c =
    map_done (numbered_feed c.args.peers.now) c.loop-feed.feeds.items
    (into_iter_items c.loop-feed.feed-iterator) c.args.named.items
    (omega (arith, c.in-None.ensures.steps.0)) c.loop-feed.invariant
