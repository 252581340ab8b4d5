use Rattle.relay_core.proofs.PeerLemmas.{GivesPeer-from_insert, SamePeers-from_entries}
use Rattle.relay_core.proofs.PeerLemmas.{SamePlaces-from_entries, on_err}
use Rattle.relay_core.proofs.peers.Peers.open.Goals as goal

-- the map stays where it has no memory for the entry
pub returns-in_err-insert-clause-err : goal.returns-in_err-insert-clause-err
returns-in_err-insert-clause-err c =
    on_err c.from_residual.result (SamePeers-from_entries c.args.self.now
    (record { peers = c.insert.new.self }) c.in_err-insert.ensures.err)

-- so do the places
pub returns-in_err-insert-clause-err_places : goal.returns-in_err-insert-clause-err_places
returns-in_err-insert-clause-err_places c =
    on_err c.from_residual.result (SamePlaces-from_entries c.args.self.now
    (record { peers = c.insert.new.self }) c.in_err-insert.ensures.err)

-- the entry is the peer
pub returns-clause-opened : goal.returns-clause-opened
returns-clause-opened c =
    let insert = c.in_ok-insert.ensures in
    GivesPeer-from_insert _ _ _ _ c.in_ok-insert.field-0 insert.old insert.updates insert.len
