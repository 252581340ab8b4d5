use Rattle.relay_core.proofs.PeerLemmas.{ClosesPeer-from_remove}
use Rattle.relay_core.proofs.peers.Peers.close.Goals as goal

-- the entry goes, and the peer with it
pub returns : goal.returns
returns c =
    ClosesPeer-from_remove _ _ _ c.remove.result c.remove.ensures.value c.remove.ensures.updates
    c.remove.ensures.len
