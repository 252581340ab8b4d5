use Rattle.std.proofs.Common.{◌∙◌, ap, sym, Bool}
use Rattle.std.specs.Prelude.{bytes_eq}
use Rattle.relay_conf.specs.declared.relay.Peer.{Peer}
use Rattle.relay_conf.proofs.Numbered.{later, found_at}
use Rattle.relay_conf.proofs.peers.place_of_peer.Goals as goal

pub loop-place-preserved : goal.loop-place-preserved
loop-place-preserved c =
    let has : Peer → Bool = λ peer. bytes_eq c.args.name.now peer.name in
    later has c.args.peers.now c.loop-place.place _ c.index-peers-place.result
    c.loop-place-test.true c.loop-place.invariant
    (sym (c.is.ensures ∙ ap (bytes_eq c.args.name.now) c.as_slice.ensures
    ∙ ap has c.index-peers-place.is)
    ∙ c.if-is.false)

pub returns-then-is : goal.returns-then-is
returns-then-is c =
    let has : Peer → Bool = λ peer. bytes_eq c.args.name.now peer.name in
    found_at has c.args.peers.now c.loop-place.place _ c.index-peers-place.result
    c.loop-place-test.true c.loop-place.invariant
    (sym (c.is.ensures ∙ ap (bytes_eq c.args.name.now) c.as_slice.ensures
    ∙ ap has c.index-peers-place.is)
    ∙ c.if-is.true)
