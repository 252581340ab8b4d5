use Rattle.std.proofs.Common.{flat_map, map, take}
use Rattle.std.specs.List.{enumerate_from}
use Rattle.relay_explain.specs.Peers.{peer_text}
use Rattle.relay_explain.specs.Text.{Adds}
use Rattle.relay_explain.proofs.peers.put_peers.Given as goal

-- what is told of the peers so far is there
abbrev pub invariant-loop-number : goal.invariant-loop-number
invariant-loop-number l =
    Adds l.fn.text l.text
    (flat_map (peer_text l.fn.relay (map (λ line. line.now) l.fn.lines))
    (take l.number (enumerate_from 0 l.fn.relay.peers.items)))
