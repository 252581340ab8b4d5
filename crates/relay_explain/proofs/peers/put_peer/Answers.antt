use Rattle.relay_explain.proofs.Puts.{two}
use Rattle.relay_explain.proofs.peers.put_peer.Goals as goal

pub returns : goal.returns
returns c =
    let line = rw c.as_slice.ensures at c.peer_line-line.ensures in
    rw (← line)
    (two (two c.put_peer_line-text.ensures c.put_odds-text.ensures) c.put_callers.ensures)
