use Rattle.std.proofs.Common.{◌≡◌, ◌++◌, length}
use Rattle.news_terms.specs.Path.{path_identities}
use Rattle.path_rules.proofs.rules.listed_identities.Given as goal

-- the identities so far and those of what is left are those of the Path
abbrev pub invariant-loop-cut : goal.invariant-loop-cut
invariant-loop-cut l = l.list.items ++ path_identities l.rest ≡ path_identities l.fn.path

abbrev pub decreases-loop-cut : goal.decreases-loop-cut
decreases-loop-cut l = length l.rest
