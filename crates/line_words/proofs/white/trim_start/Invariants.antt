use Rattle.std.proofs.Common.{◌≡◌, ◌≤◌, ◌-◌, length, drop}
use Rattle.news_terms.specs.Article.{without_leading_white}
use Rattle.line_words.proofs.white.trim_start.Given as goal

-- the octets passed are white
abbrev pub invariant-loop-at : goal.invariant-loop-at
invariant-loop-at l = record {
  within : l.at ≤ length l.text;
  passed : without_leading_white (drop l.at l.text) ≡ without_leading_white l.text;
}

abbrev pub decreases-loop-at : goal.decreases-loop-at
decreases-loop-at l = length l.text - l.at
