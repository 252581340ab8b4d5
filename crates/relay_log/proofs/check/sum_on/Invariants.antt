use Rattle.std.proofs.Common.{◌≡◌, take}
use Rattle.relay_log.specs.Check.{sum_on}
use Rattle.relay_log.proofs.check.sum_on.Given as goal

-- the sum of those octets that were gone through
abbrev pub invariant-loop-octet : goal.invariant-loop-octet
invariant-loop-octet l = l.all ≡ sum_on l.fn.sum (take l.octet-index l.octets)
