use Rattle.std.proofs.Common.{sym}
use Rattle.relay_core.proofs.PeerLemmas.{TakesPeer-from_write, TakesPeer-from_none}
use Rattle.relay_core.proofs.peers.Peers.lend.Goals as goal

-- what the place had is the answer, and the place is emptied
pub returns-in-Some : goal.returns-in-Some
returns-in-Some c =
    rw c.take.ensures.value
    (TakesPeer-from_write _ _ _ _ _ (sym c.in-Some.ensures.value) c.take.ensures.after
    (c.get_mut.follows.holds c.take.new.self))

-- there is no place
pub returns-in-None : goal.returns-in-None
returns-in-None c =
    rw c.get_mut.follows.holds-at-none (TakesPeer-from_none _ _ (sym c.in-None.ensures.value))
