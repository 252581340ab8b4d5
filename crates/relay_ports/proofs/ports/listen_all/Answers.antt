use Rattle.std.proofs.Common.{◌≡◌, ◌∙◌, ◌++◌, ◌≤◌, ◌+◌, ℕ, List, length, map}
use Rattle.std.proofs.Common.{drop, get_or, refl, ap, sym, subst, arith}
use Rattle.std.proofs.lemmas.Bool.{eq-eqb, ne_eqb}
use Rattle.std.proofs.lemmas.Result.{err_from_is_err_and}
use Rattle.live_wire.specs.Ports.{callers_of}
use Rattle.live_wire.specs.declared.port.Port.{Port}
use Rattle.relay_conf.specs.declared.relay.Peer.{Peer}
use Rattle.relay_live.specs.declared.running.PeerSource.{PeerSource}
use Rattle.relay_ports.specs.Callers.{LetsIn}
use Rattle.relay_ports.specs.Ports.{IsPortFault, ends_from}
use Rattle.relay_ports.proofs.PortFaults.{lost_is_fault}
use Rattle.relay_ports.proofs.PeerSources.{after_peer, drop_peer, of_all, without_port}
use Rattle.relay_live.proofs.Rooms.{below_as, no_more}
use Rattle.relay_ports.proofs.ports.listen_all.Goals as goal

pub returns-in-Err-clause-fault : goal.returns-in-Err-clause-fault
returns-in-Err-clause-fault g c =
    let peers = c.args.relay.now.peers.items in
    let peer = c.peer-item.result in
    let k = c.loop-number.number in
    let within = below_as _ _ _ c.loop-number-test.true
    (ap length c.deref-peer-items.ensures.value) in
    let same : peer ≡ get_or peers k peer =
    c.peer-item.is
    ∙ ap (λ (all : List Peer). get_or all k peer) c.deref-peer-items.ensures.value in
    subst (IsPortFault peers) (sym c.lost.ensures)
    (lost_is_fault peers peer.port _ c.if-peer-eq0.false (k, peer, within, sym same, refl))

pub returns-in_err-add_peer_sources-in-Ok-clause-fault
    : goal.returns-in_err-add_peer_sources-in-Ok-clause-fault
returns-in_err-add_peer_sources-in-Ok-clause-fault g c =
    let peers = c.args.relay.now.peers.items in
    let peer = c.peer-item.result in
    let k = c.loop-number.number in
    let within = below_as _ _ _ c.loop-number-test.true
    (ap length c.deref-peer-items.ensures.value) in
    let same : peer ≡ get_or peers k peer =
    c.peer-item.is
    ∙ ap (λ (all : List Peer). get_or all k peer) c.deref-peer-items.ensures.value in
    let p = err_from_is_err_and c.from_residual.result c.from_residual.ensures.1 in
    rw (p.1, p.2)
    (c.in_err-add_peer_sources-in-Ok.ensures.fault peers (k, peer, within, sym same, refl))

-- a peer without a port is passed by
pub loop-number-preserved-then-peer-eq0 : goal.loop-number-preserved-then-peer-eq0
loop-number-preserved-then-peer-eq0 g c =
    let peers = c.args.relay.now.peers.items in
    let peer = c.peer-item.result in
    let k = c.loop-number.number in
    let made : List ℕ =
    map (λ (peer_source : PeerSource Port). peer_source.peer) c.loop-number.peer_sources.items in
    let within = below_as _ _ _ c.loop-number-test.true
    (ap length c.deref-peer-items.ensures.value) in
    let same : peer ≡ get_or peers k peer =
    c.peer-item.is
    ∙ ap (λ (all : List Peer). get_or all k peer) c.deref-peer-items.ensures.value in
    record {
      few = omega (arith, c.loop-number.invariant.few);
      peers = without_port made k peer (drop (k + 1) peers)
          (eq-eqb peer.port 0 c.if-peer-eq0.true)
          ∙ ap (λ (rest : List Peer). made ++ ends_from k rest)
          (sym (drop_peer peers k peer within same))
          ∙ c.loop-number.invariant.peers;
      left = c.loop-number.invariant.left;
      callers = c.loop-number.invariant.callers;
    }

pub loop-number-preserved : goal.loop-number-preserved
loop-number-preserved g c =
    let peers = c.args.relay.now.peers.items in
    let peer = c.peer-item.result in
    let k = c.loop-number.number in
    let peer_of : PeerSource Port → ℕ = λ peer_source. peer_source.peer in
    let within = below_as _ _ _ c.loop-number-test.true
    (ap length c.deref-peer-items.ensures.value) in
    let same : peer ≡ get_or peers k peer =
    c.peer-item.is
    ∙ ap (λ (all : List Peer). get_or all k peer) c.deref-peer-items.ensures.value in
    let most : peer.connections ≤ 64 =
    subst (λ (one : Peer). one.connections ≤ 64) (sym same)
    (c.args.relay.now.sound.connections k peer within).1 in
    let added = c.in_ok-add_peer_sources-in-Ok.ensures in
    let allows = c.args.relay.now.allows.items in
    let own : LetsIn allows k (callers_of c.in-Ok.first) =
    subst (LetsIn allows k)
    (sym (c.in-Ok.ensures.callers ∙ c.index-callers-number.is))
    (c.requires.callers.each k c.index-callers-number.result
    (omega (arith, within, c.requires.callers.count))) in
    record {
      few = omega (arith, added.count, c.loop-number.invariant.few, most);
      peers = after_peer (map peer_of c.add_peer_sources.new.peer_sources.items)
          (map peer_of c.loop-number.peer_sources.items) k peer (drop (k + 1) peers)
          (ne_eqb peer.port 0 c.if-peer-eq0.false) added.peers
          ∙ ap (λ (rest : List Peer). map peer_of c.loop-number.peer_sources.items
          ++ ends_from k rest)
          (sym (drop_peer peers k peer within same))
          ∙ c.loop-number.invariant.peers;
      left = added.left c.args.sessions c.in-Ok.ensures.left c.loop-number.invariant.left;
      callers = added.callers allows own c.loop-number.invariant.callers;
    }

-- there is no further peer
pub returns-clause-peers : goal.returns-clause-peers
returns-clause-peers g c =
    let peers = c.args.relay.now.peers.items in
    of_all (map (λ (one : PeerSource Port). one.peer) c.loop-number.peer_sources.items)
    (ends_from 0 peers) c.loop-number.number peers
    (no_more _ _ _ (sym (ap length c.deref-peer-items.ensures.value)) c.loop-number-test.false)
    c.loop-number.invariant.peers
