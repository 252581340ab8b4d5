use Rattle.std.proofs.Common.{◌≡◌, length}
use Rattle.relay_conf.specs.Reach.{fault_in}
use Rattle.relay_conf.specs.RelayLines.{ranges_of}
use Rattle.relay_conf.specs.Words.{words}
use Rattle.relay_conf.proofs.reach.range_fault.Given as goal

-- the words so far are ranges
abbrev pub invariant-loop-word : goal.invariant-loop-word
invariant-loop-word l =
    fault_in (ranges_of (words l.unread)) ≡ fault_in (ranges_of (words l.text))

abbrev pub decreases-loop-word : goal.decreases-loop-word
decreases-loop-word l = length (words l.unread)
