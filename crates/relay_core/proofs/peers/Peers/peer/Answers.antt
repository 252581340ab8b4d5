use Rattle.std.proofs.Common.{None, Some, sym, ◌∙◌}
use Rattle.relay_core.proofs.PeerLemmas.{peer_at-entry}
use Rattle.relay_core.proofs.peers.Peers.peer.Goals as goal

-- the peer of the place
pub returns-in-Some : goal.returns-in-Some
returns-in-Some c =
    c.as_ref.ensures.value
    ∙ sym (peer_at-entry c.args.self.now c.args.number (Some c.in-Some.place.now)
    (sym c.in-Some.ensures.value))

-- no place, no peer
pub returns-in-None : goal.returns-in-None
returns-in-None c =
    sym (peer_at-entry c.args.self.now c.args.number None (sym c.in-None.ensures.value))
