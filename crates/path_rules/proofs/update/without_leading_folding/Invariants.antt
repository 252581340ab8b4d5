use Rattle.std.proofs.Common.{◌≡◌, ◌≤◌, ◌-◌, length, drop}
use Rattle.news_terms.specs.Path.{without_leading_folding}
use Rattle.path_rules.proofs.update.without_leading_folding.Given as goal

-- the octets passed fold the content
abbrev pub invariant-loop-at : goal.invariant-loop-at
invariant-loop-at l = record {
  within : l.at ≤ length l.content;
  passed : without_leading_folding l.content ≡ without_leading_folding (drop l.at l.content);
}

abbrev pub decreases-loop-at : goal.decreases-loop-at
decreases-loop-at l = length l.content - l.at
