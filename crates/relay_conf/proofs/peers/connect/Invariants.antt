use Rattle.std.proofs.Common.{◌≡◌, ◌++◌, map, take, drop}
use Rattle.relay_conf.specs.Relay.{connected}
use Rattle.relay_conf.proofs.peers.connect.Given as goal

-- the peers passed have their connections, and those that are left what they had
abbrev pub invariant-loop-peer : goal.invariant-loop-peer
invariant-loop-peer l =
    l.peers
    ≡ map (connected l.all) (take l.peer-index l.fn.peers) ++ drop l.peer-index l.fn.peers
