use Rattle.std.proofs.Common.{◌≡◌, ◌++◌, ◌*◌, ◌≤◌, All, drop, length, map}
use Rattle.live_wire.specs.Ports.{left_of}
use Rattle.relay_ports.specs.Callers.{HasCallers}
use Rattle.relay_ports.specs.Ports.{ends_from}
use Rattle.relay_ports.proofs.ports.listen_all.Given as goal

-- the peer sources of the peers so far that have a port
abbrev pub invariant-loop-number : goal.invariant-loop-number
invariant-loop-number g l = record {
  few : length l.peer_sources.items ≤ 64 * l.number;
  peers : map (λ peer_source. peer_source.peer) l.peer_sources.items
      ++ ends_from l.number (drop l.number l.relay.peers.items)
      ≡ ends_from 0 l.relay.peers.items;
  left : All (λ peer_source. left_of peer_source.connections ≡ l.sessions) l.peer_sources.items;
  callers : All (HasCallers l.relay.allows.items) l.peer_sources.items;
}
