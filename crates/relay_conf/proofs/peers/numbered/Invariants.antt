use Rattle.std.proofs.Common.{◌≡◌, ◌++◌, map}
use Rattle.std.specs.Vec.Iter.{into_iter_items}
use Rattle.relay_conf.specs.RelayDraft.{numbered_feed}
use Rattle.relay_conf.proofs.peers.numbered.Given as goal

-- the feeds passed stand before those that are left
abbrev pub invariant-loop-feed : goal.invariant-loop-feed
invariant-loop-feed l =
    l.feeds.items ++ map (numbered_feed l.peers) (into_iter_items l.feed-iterator)
    ≡ map (numbered_feed l.peers) l.fn.named.items
