use Rattle.std.proofs.Common.{◌≡◌, drop}
use Rattle.relay_explain.specs.Peers.{first_known_as}
use Rattle.relay_explain.proofs.peers.first_known_as.Given as goal

-- no peer so far has the identity
abbrev pub invariant-loop-other : goal.invariant-loop-other
invariant-loop-other l =
    first_known_as l.identity (drop l.other-index l.peers)
    ≡ first_known_as l.identity l.peers
