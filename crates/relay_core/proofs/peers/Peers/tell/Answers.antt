use Rattle.std.proofs.Common.{◌∙◌, None, Some, ap, refl, sym}
use Rattle.relay_core.proofs.PeerLemmas.{TellsPeer-from_write, TellsPeer-from_none}
use Rattle.relay_core.proofs.peers.Peers.tell.Goals as goal

-- the slot of the peer is written
pub returns-in-Some-place : goal.returns-in-Some-place
returns-in-Some-place c =
    let told = Some (record c.in-Some-place.peer { slot = Some c.args.outcome }) in
    TellsPeer-from_write _ _ _ (Some c.in-Some-place.peer) _ _
    (sym c.in-Some.ensures.value ∙ ap Some c.in-Some-place.is) refl (c.get_mut.follows.holds told)

-- a peer that is lent out is told nothing
pub returns-in-None : goal.returns-in-None
returns-in-None c =
    TellsPeer-from_write _ _ _ None _ _
    (sym c.in-Some.ensures.value ∙ ap Some c.in-None.is) c.in-None.is
    (c.get_mut.follows.holds c.in-Some.place.now)

-- there is no place
pub returns-in_default : goal.returns-in_default
returns-in_default c =
    rw c.get_mut.follows.holds-at-none (TellsPeer-from_none _ _ _ (sym c.in_default.ensures.value))
