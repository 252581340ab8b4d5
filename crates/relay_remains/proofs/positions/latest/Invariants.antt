use Rattle.std.proofs.Common.{take}
use Rattle.relay_remains.proofs.Latest.{IsLatestOf}
use Rattle.relay_remains.proofs.positions.latest.Given as goal

-- it is the latest of those so far
abbrev pub invariant-loop-place : goal.invariant-loop-place
invariant-loop-place l = IsLatestOf (take l.place l.cycles) l.latest l.cycle
