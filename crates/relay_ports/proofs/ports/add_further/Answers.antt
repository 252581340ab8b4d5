use Rattle.std.proofs.Common.{◌≡◌, ◌∙◌, ◌∷◌, ◌++◌, [], ℕ, List, All, length, map, ap, sym, subst}
use Rattle.std.proofs.Common.{arith}
use Rattle.std.proofs.lemmas.List.{length-append, map-append}
use Rattle.std.proofs.lemmas.List.Elements.{All-push}
use Rattle.live_wire.specs.Ports.{left_of}
use Rattle.live_wire.specs.declared.port.Port.{Port}
use Rattle.relay_live.specs.declared.running.PeerSource.{PeerSource}
use Rattle.relay_ports.specs.Callers.{HasCallers, LetsIn}
use Rattle.relay_ports.specs.Ports.{IsPortFault}
use Rattle.relay_ports.proofs.PeerSources.{one_more}
use Rattle.relay_ports.proofs.PortFaults.{lost_is_fault}
use Rattle.relay_ports.proofs.ports.add_further.Goals as goal

pub loop-preserved : goal.loop-preserved
loop-preserved c =
    let number = c.args.number in
    let before : List (PeerSource Port) = c.loop.peer_sources.items in
    let old : List (PeerSource Port) = c.args.peer_sources.now.items in
    let peer_of : PeerSource Port → ℕ = λ peer_source. peer_source.peer in
    let peer_source : PeerSource Port =
    record { peer = number; connections = c.in-Ok.connections } in
    let added : c.add_peer_source.new.peer_sources.items ≡ before ++ peer_source ∷ [] =
    c.in_ok-add_peer_source-in-Ok.ensures in
    record {
      peers = ap (λ (peer_sources : List (PeerSource Port)). map peer_of peer_sources
          ++ number ∷ []) added
          ∙ ap (λ (ns : List ℕ). ns ++ number ∷ []) (map-append peer_of before (peer_source ∷ []))
          ∙ one_more (map peer_of before) (map peer_of old) number c.loop.counter
          c.loop.invariant.peers;
      count = omega (
        arith,
        ap length added,
        length-append before (peer_source ∷ []),
        c.loop.invariant.count,
      );
      left = λ left is all. subst (All (λ (one : PeerSource Port). left_of one.connections ≡ left))
          (sym added) (All-push (λ (one : PeerSource Port). left_of one.connections ≡ left)
          before peer_source
          (c.loop.invariant.left left is all) (c.in-Ok.ensures.left ∙ is));
      callers = λ allows lets all. subst (All (HasCallers allows)) (sym added)
          (All-push (HasCallers allows) before peer_source
          (c.loop.invariant.callers allows lets all)
          (subst (LetsIn allows number) (sym c.in-Ok.ensures.callers) lets));
    }

-- the port is that of the peer
pub returns-in-Err-clause-fault : goal.returns-in-Err-clause-fault
returns-in-Err-clause-fault c =
    λ peers among. subst (IsPortFault peers) (sym c.lost.ensures)
    (lost_is_fault peers c.args.peer.now.port c.kind.result c.requires.port among)
