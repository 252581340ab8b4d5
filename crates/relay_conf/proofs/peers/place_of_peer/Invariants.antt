use Rattle.std.proofs.Common.{◌≡◌, ◌+◌, drop}
use Rattle.relay_conf.specs.Relay.{peer_number}
use Rattle.relay_conf.proofs.peers.place_of_peer.Given as goal

-- no peer so far has the name
abbrev pub invariant-loop-place : goal.invariant-loop-place
invariant-loop-place l =
    peer_number l.peers l.name ≡ l.place + peer_number (drop l.place l.peers) l.name
