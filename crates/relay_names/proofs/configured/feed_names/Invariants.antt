use Rattle.std.proofs.Common.{◌≡◌, map, take}
use Rattle.std.specs.Prelude.{slice_get}
use Rattle.relay_names.specs.Names.{peer_name}
use Rattle.relay_names.proofs.configured.feed_names.Given as goal

-- the names are those of the peers of the feeds so far
abbrev pub invariant-loop-feed : goal.invariant-loop-feed
invariant-loop-feed l =
    l.names.items
    ≡ map (λ feed. peer_name (slice_get l.peers feed.peer)) (take l.feed-index l.feeds)
