use Rattle.relay_ports.proofs.Reached.{AreCallersOf}
use Rattle.relay_ports.proofs.callers.callers_of.Given as goal

-- these are those of the peers so far
abbrev pub invariant-loop-peer : goal.invariant-loop-peer
invariant-loop-peer l = AreCallersOf l.relay.allows.items l.peer l.callers.items
