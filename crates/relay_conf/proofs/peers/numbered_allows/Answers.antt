use Rattle.std.proofs.Common.{arith}
use Rattle.std.specs.Vec.Iter.{into_iter_items}
use Rattle.relay_conf.specs.RelayDraft.{numbered_allow}
use Rattle.relay_conf.proofs.Numbered.{map_next, map_done}
use Rattle.relay_conf.proofs.peers.numbered_allows.Goals as goal

pub loop-allow-preserved : goal.loop-allow-preserved
loop-allow-preserved c =
    map_next (numbered_allow c.args.peers.now) c.loop-allow.allows.items c.push.new.self.items
    (into_iter_items c.loop-allow.allow-iterator) (into_iter_items c.next.new.self)
    c.args.named.items c.in-Some.allow c.in-Some.ensures.steps.0
    (rw (c.number_of-peer.ensures, c.as_slice.ensures) at c.in_ok-push.ensures.items)
    c.loop-allow.invariant

pub returns : goal.returns
returns c =
    map_done (numbered_allow c.args.peers.now) c.loop-allow.allows.items
    (into_iter_items c.loop-allow.allow-iterator) c.args.named.items
    (omega (arith, c.in-None.ensures.steps.0)) c.loop-allow.invariant
