use Rattle.std.proofs.Common.{refl}
use Rattle.relay_conf.specs.Relay.{connected}
use Rattle.relay_conf.proofs.Numbered.{map_there, mapped_there}
use Rattle.relay_conf.proofs.peers.connect.Goals as goal

pub loop-peer-preserved : goal.loop-peer-preserved
loop-peer-preserved c =
    map_there (connected c.args.all.now) c.args.peers.now c.loop-peer.peers c.loop-peer.peer-index
    c.peer-item.result _ c.loop-peer-test.true c.loop-peer.invariant
    (rw (c.connections_for-peer.ensures, c.as_slice.ensures) refl)

pub returns : goal.returns
returns c =
    mapped_there (connected c.args.all.now) c.args.peers.now c.loop-peer.peers
    c.loop-peer.peer-index c.loop-peer-test.false c.loop-peer.invariant
