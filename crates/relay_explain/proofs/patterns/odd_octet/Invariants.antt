use Rattle.std.proofs.Common.{◌≡◌, drop}
use Rattle.relay_explain.specs.Patterns.{odd_octet}
use Rattle.relay_explain.proofs.patterns.odd_octet.Given as goal

-- a name or a pattern has each octet so far
abbrev pub invariant-loop-octet : goal.invariant-loop-octet
invariant-loop-octet l =
    odd_octet (drop l.octet-index l.expression) ≡ odd_octet l.expression
