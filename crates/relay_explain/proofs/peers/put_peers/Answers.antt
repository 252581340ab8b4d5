use Rattle.std.proofs.Common.{◌≡◌, ◌<◌, ap, arith, get_or, length, map}
use Rattle.relay_explain.specs.Peers.{peer_text, peers_text}
use Rattle.relay_explain.proofs.Told.{told_all, told_more}
use Rattle.relay_explain.proofs.Puts.{nothing}
use Rattle.relay_explain.proofs.peers.put_peers.Goals as goal

pub loop-number-init : goal.loop-number-init
loop-number-init c = nothing _

pub loop-number-preserved : goal.loop-number-preserved
loop-number-preserved c =
    let all : length c.deref-peer-items.result.now ≡ length c.args.relay.now.peers.items =
    ap length c.deref-peer-items.ensures.value in
    let there : c.loop-number.number < length c.args.relay.now.peers.items =
    omega (arith, all, c.loop-number-test.true) in
    let one : c.peer-item.result
    ≡ get_or c.args.relay.now.peers.items c.loop-number.number c.peer-item.result =
    rw (ap (λ peers. get_or peers c.loop-number.number c.peer-item.result)
    c.deref-peer-items.ensures.value) at c.peer-item.is in
    told_more
    (peer_text c.args.relay.now (map (λ line. line.now) c.args.lines.now))
    c.args.relay.now.peers.items c.loop-number.number c.peer-item.result there
    c.loop-number.invariant (rw (← one) c.put_peer-text.ensures)

pub returns : goal.returns
unfolding peers_text
returns c =
    let all : length c.deref-peer-items.result.now ≡ length c.args.relay.now.peers.items =
    ap length c.deref-peer-items.ensures.value in
    told_all (peer_text c.args.relay.now (map (λ line. line.now) c.args.lines.now))
    c.args.relay.now.peers.items c.loop-number.number
    (omega (arith, all, c.loop-number-test.false)) c.loop-number.invariant
