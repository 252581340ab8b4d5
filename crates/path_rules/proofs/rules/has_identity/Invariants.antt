use Rattle.std.proofs.Common.{◌≡◌, length}
use Rattle.news_terms.specs.Path.{has_identity}
use Rattle.path_rules.proofs.rules.has_identity.Given as goal

-- the own identity is in what is left exactly where it is in the Path
abbrev pub invariant-loop-cut : goal.invariant-loop-cut
invariant-loop-cut l = has_identity l.own l.rest ≡ has_identity l.own l.fn.path

abbrev pub decreases-loop-cut : goal.decreases-loop-cut
decreases-loop-cut l = length l.rest
