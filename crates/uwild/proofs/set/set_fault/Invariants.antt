use Rattle.std.proofs.Common.{◌≡◌, length}
use Rattle.news_terms.specs.Pattern as terms
use Rattle.uwild.proofs.set.set_fault.Given as goal

abbrev pub invariant-loop-range : goal.invariant-loop-range
invariant-loop-range l = terms.set_fault l.set ≡ terms.set_fault l.rest

abbrev pub decreases-loop-range : goal.decreases-loop-range
decreases-loop-range l = length l.rest
