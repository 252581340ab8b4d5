use Rattle.std.proofs.Common.{◌≡◌, map, take}
use Rattle.std.specs.List.{enumerate_from}
use Rattle.relay_explain.specs.Callers.{said_range}
use Rattle.relay_explain.proofs.callers.said_with.Given as goal

-- the ranges so far are there
abbrev pub invariant-loop-number : goal.invariant-loop-number
invariant-loop-number l =
    l.all.items ≡ map (said_range l.numbers) (take l.number (enumerate_from 0 l.ranges))
