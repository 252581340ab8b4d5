use Rattle.std.proofs.Common.{◌≡◌, drop}
use Rattle.relay_explain.specs.Patterns.{has_taking, takes_from}
use Rattle.relay_explain.proofs.patterns.has_taking.Given as goal

-- no pattern that takes has begun so far
abbrev pub invariant-loop-octet : goal.invariant-loop-octet
invariant-loop-octet l =
    takes_from l.place (drop l.octet-index l.expression) ≡ has_taking l.expression
