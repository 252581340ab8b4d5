use Rattle.std.proofs.Common.{◌≡◌, ◌++◌, drop}
use Rattle.relay_explain.specs.Callers.{ranges_of}
use Rattle.relay_explain.proofs.callers.ranges_of.Given as goal

-- the ranges so far stand before those that are left
abbrev pub invariant-loop-allow : goal.invariant-loop-allow
invariant-loop-allow l =
    l.ranges.items ++ ranges_of l.peer (drop l.allow-index l.allows) ≡ ranges_of l.peer l.allows
