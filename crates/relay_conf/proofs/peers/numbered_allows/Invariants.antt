use Rattle.std.proofs.Common.{◌≡◌, ◌++◌, map}
use Rattle.std.specs.Vec.Iter.{into_iter_items}
use Rattle.relay_conf.specs.RelayDraft.{numbered_allow}
use Rattle.relay_conf.proofs.peers.numbered_allows.Given as goal

-- the ranges passed stand before those that are left
abbrev pub invariant-loop-allow : goal.invariant-loop-allow
invariant-loop-allow l =
    l.allows.items ++ map (numbered_allow l.peers) (into_iter_items l.allow-iterator)
    ≡ map (numbered_allow l.peers) l.fn.named.items
