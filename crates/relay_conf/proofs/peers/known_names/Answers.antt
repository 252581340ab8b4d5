use Rattle.std.proofs.Common.{◌∙◌, ap, sym}
use Rattle.relay_conf.specs.Relay.{is_peer}
use Rattle.relay_conf.specs.declared.relay.NamedLine.{NamedLine}
use Rattle.relay_conf.proofs.NamedLines.{known_next}
use Rattle.relay_conf.proofs.peers.known_names.Goals as goal

pub loop-one-preserved : goal.loop-one-preserved
loop-one-preserved c =
    let peers = c.args.peers.now in
    c.loop-one.invariant
    ∙ known_next peers c.args.named.now c.loop-one.one-index c.one-item.result c.loop-one-test.true
    (sym (c.if-not-is_peer.ensures ∙ ap (is_peer peers) c.as_slice.ensures
    ∙ ap (λ (one : NamedLine). is_peer peers one.name) c.one-item.is))
