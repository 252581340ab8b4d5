use Rattle.std.proofs.Common.{◌∙◌, ◌<◌, arith, length}
use Rattle.relay_explain.specs.Sums.{ports_of}
use Rattle.relay_explain.proofs.Totals.{one_more}
use Rattle.relay_explain.proofs.sums.ports_of.Goals as goal

pub loop-peer-preserved : goal.loop-peer-preserved
unfolding ports_of
loop-peer-preserved c =
    let there : c.loop-peer.peer-index < length c.args.peers.now =
    omega (arith, c.loop-peer-test.true) in (
      one_more _ c.args.peers.now c.peer-item.result c.loop-peer.peer-index
          c.loop-peer.ports _
          c.peer-item.is there c.loop-peer.invariant.0
          (c.from-ports.ensures ∙ c.port_of.ensures),
      omega (arith, c.loop-peer.invariant.1),
    )
