use Rattle.std.proofs.Common.{◌≡◌, length}
use Rattle.news_terms.specs.Pattern as terms
use Rattle.uwild.proofs.set.is_of_set.Given as goal

abbrev pub invariant-loop-range : goal.invariant-loop-range
invariant-loop-range l = terms.is_of_set l.set l.octet ≡ terms.is_of_set l.rest l.octet

abbrev pub decreases-loop-range : goal.decreases-loop-range
decreases-loop-range l = length l.rest
