use Rattle.std.proofs.Common.{◌≡◌, drop}
use Rattle.relay_explain.specs.Peers.{first_of_port}
use Rattle.relay_explain.proofs.peers.first_of_port.Given as goal

-- no peer so far has the port
abbrev pub invariant-loop-other : goal.invariant-loop-other
invariant-loop-other l =
    first_of_port l.port (drop l.other-index l.peers) ≡ first_of_port l.port l.peers
