use Rattle.std.proofs.Common.{◌≡◌, ◌++◌, ℕ, List, map, take}
use Rattle.relay_gate.specs.Gates.{AreFromLines}
use Rattle.relay_gate.proofs.gate.CountingGate.put_addresses.Given as goal

-- behind the text stands what is told of each peer so far
abbrev pub invariant-loop-counts : goal.invariant-loop-counts
invariant-loop-counts g l =
    (more : List ℕ)
    × AreFromLines (map (λ counts. counts.name.now) (take l.counts-index l.self.counts.items)) more
    × (l.text.items ≡ l.fn.text.items ++ more)
