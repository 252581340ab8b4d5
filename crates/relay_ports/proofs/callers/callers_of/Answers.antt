use Rattle.relay_ports.proofs.Reached.{more_callers}
use Rattle.relay_ports.proofs.callers.callers_of.Goals as goal

pub loop-peer-preserved : goal.loop-peer-preserved
loop-peer-preserved c =
    more_callers c.args.relay.now.allows.items c.loop-peer.peer c.loop-peer.callers.items
    c.push.new.self.items c.of.result c.loop-peer.invariant c.of.ensures
    c.in_ok-push.ensures.items
