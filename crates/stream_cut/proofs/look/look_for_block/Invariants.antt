-- The lines before are open lines of a block.
use Rattle.std.proofs.Common.{◌-◌, length}
use Rattle.stream_cut.specs.Look.{IsPassed}
use Rattle.stream_cut.proofs.look.look_for_block.Given as goal

abbrev pub invariant-loop-left : goal.invariant-loop-left
invariant-loop-left l = IsPassed l.octets l.progress.passed l.progress.looked l.progress.dots

abbrev pub decreases-loop-left : goal.decreases-loop-left
decreases-loop-left l = length l.octets - l.progress.passed
