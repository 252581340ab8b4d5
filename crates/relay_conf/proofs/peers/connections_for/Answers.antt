use Rattle.std.proofs.Common.{◌∙◌, ap, sym}
use Rattle.std.specs.Prelude.{bytes_eq}
use Rattle.relay_conf.specs.declared.relay.PeerConnections.{PeerConnections}
use Rattle.relay_conf.proofs.NamedLines.{of_another, of_name}
use Rattle.relay_conf.proofs.peers.connections_for.Goals as goal

pub loop-one-preserved : goal.loop-one-preserved
loop-one-preserved c =
    c.loop-one.invariant
    ∙ of_another c.args.all.now c.args.name.now c.loop-one.one-index c.one-item.result
    c.loop-one-test.true
    (sym (c.is.ensures ∙ ap (bytes_eq c.args.name.now) c.as_slice.ensures
    ∙ ap (λ (one : PeerConnections). bytes_eq c.args.name.now one.name) c.one-item.is)
    ∙ c.if-is.false)

pub returns-then-is : goal.returns-then-is
returns-then-is c =
    ap (λ (one : PeerConnections). one.connections) c.one-item.is
    ∙ sym (c.loop-one.invariant
    ∙ of_name c.args.all.now c.args.name.now c.loop-one.one-index c.one-item.result
    c.loop-one-test.true
    (sym (c.is.ensures ∙ ap (bytes_eq c.args.name.now) c.as_slice.ensures
    ∙ ap (λ (one : PeerConnections). bytes_eq c.args.name.now one.name) c.one-item.is)
    ∙ c.if-is.true))
