use Rattle.std.proofs.Common.{◌∙◌, ap, take}
use Rattle.relay_explain.specs.Peers.{first_known_as, first_on, peer_odds}
use Rattle.relay_explain.proofs.Puts.{two}
use Rattle.relay_explain.proofs.peers.put_odds.Goals as goal

pub returns : goal.returns
unfolding peer_odds
returns c =
    let served = c.first_on.ensures
    ∙ ap (λ peers. first_on c.args.peer.now.port (take c.args.number peers))
    c.deref.ensures.value in
    let known = c.first_known_as.ensures
    ∙ ap (first_known_as c.as_slice-identity.result.now) c.first_ones.ensures
    ∙ ap (λ peers. first_known_as c.as_slice-identity.result.now (take c.args.number peers))
    c.deref-2.ensures.value
    ∙ ap (λ identity. first_known_as identity (take c.args.number c.args.relay.now.peers.items))
    c.as_slice-identity.ensures in
    let own = rw (c.as_slice-identity.ensures, c.as_slice.ensures) at c.is.ensures in
    rw (← served, ← known, ← own)
    (two (two c.put_shared-text.ensures c.put_shared-text-2.ensures) c.put_odd.ensures)
