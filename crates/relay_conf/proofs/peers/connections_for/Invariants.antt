use Rattle.std.proofs.Common.{◌≡◌, drop}
use Rattle.relay_conf.specs.Relay.{connections_for}
use Rattle.relay_conf.proofs.peers.connections_for.Given as goal

-- none of those passed is of the name
abbrev pub invariant-loop-one : goal.invariant-loop-one
invariant-loop-one l =
    connections_for l.all l.name ≡ connections_for (drop l.one-index l.all) l.name
