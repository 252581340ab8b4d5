use Rattle.std.proofs.Common.{◌≡◌, ◌≤◌, ◌*◌, ◌^◌, take}
use Rattle.relay_explain.specs.Sums as terms
use Rattle.relay_explain.proofs.sums.ports_of.Given as goal

-- what is added up is of those so far, and no more than so much for each
abbrev pub invariant-loop-peer : goal.invariant-loop-peer
invariant-loop-peer l =
    (l.ports ≡ terms.ports_of (take l.peer-index l.peers))
    × (l.ports ≤ l.peer-index * 2 ^ 32)
