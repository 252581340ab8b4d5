use Rattle.std.proofs.Common.{◌≡◌, length}
use Rattle.relay_gate.proofs.gate.CountingGate.new.Given as goal

-- there is one for each peer so far
abbrev pub invariant-loop-peer : goal.invariant-loop-peer
invariant-loop-peer l = length l.counts.items ≡ l.peer-index
