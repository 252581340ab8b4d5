use Rattle.std.proofs.Common.{◌≡◌, ◌∙◌, ◌∷◌, [], ℕ, All, ap, length, length-append, map, subst, sym}
use Rattle.std.proofs.lemmas.List.{map_push}
use Rattle.std.proofs.lemmas.List.Elements.{All-push}
use Rattle.live_wire.specs.Ports.{left_of}
use Rattle.live_wire.specs.declared.port.Port.{Port}
use Rattle.relay_live.specs.declared.running.PeerSource.{PeerSource}
use Rattle.relay_ports.specs.Callers.{HasCallers}
use Rattle.relay_ports.proofs.ports.add_peer_sources.Goals as goal

-- The last peer source of a peer stands behind its further ones: it is one more,
pub returns-in_ok-add_peer_source-in-Ok-clause-count
    : goal.returns-in_ok-add_peer_source-in-Ok-clause-count
returns-in_ok-add_peer_source-in-Ok-clause-count c =
    ap length c.in_ok-add_peer_source-in-Ok.ensures
    ∙ length-append c.add_further.new.peer_sources.items
    (record { peer = c.args.number; connections = c.args.first } ∷ [])
    ∙ c.in-Ok.ensures.count

-- of the peer's number,
pub returns-in_ok-add_peer_source-in-Ok-clause-peers
    : goal.returns-in_ok-add_peer_source-in-Ok-clause-peers
returns-in_ok-add_peer_source-in-Ok-clause-peers c =
    let peer_of : PeerSource Port → ℕ = λ one. one.peer in
    ap (map peer_of) c.in_ok-add_peer_source-in-Ok.ensures
    ∙ map_push peer_of c.add_further.new.peer_sources.items
    (record { peer = c.args.number; connections = c.args.first })
    ∙ c.in-Ok.ensures.peers

-- takes as many connections,
pub returns-in_ok-add_peer_source-in-Ok-clause-left
    : goal.returns-in_ok-add_peer_source-in-Ok-clause-left
returns-in_ok-add_peer_source-in-Ok-clause-left c =
    λ left is all. subst (All (λ (one : PeerSource Port). left_of one.connections ≡ left))
    (sym c.in_ok-add_peer_source-in-Ok.ensures)
    (All-push (λ (one : PeerSource Port). left_of one.connections ≡ left)
    c.add_further.new.peer_sources.items
    (record { peer = c.args.number; connections = c.args.first })
    (c.in-Ok.ensures.left left is all) is)

-- and those of the same callers
pub returns-in_ok-add_peer_source-in-Ok-clause-callers
    : goal.returns-in_ok-add_peer_source-in-Ok-clause-callers
returns-in_ok-add_peer_source-in-Ok-clause-callers c =
    λ allows lets all. subst (All (HasCallers allows))
    (sym c.in_ok-add_peer_source-in-Ok.ensures)
    (All-push (HasCallers allows) c.add_further.new.peer_sources.items
    (record { peer = c.args.number; connections = c.args.first })
    (c.in-Ok.ensures.callers allows lets all) lets)
