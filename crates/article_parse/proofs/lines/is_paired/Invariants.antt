use Rattle.std.proofs.Common.{◌≡◌, ◌≤◌, ◌-◌, length, drop}
use Rattle.news_terms.specs.Article.{is_paired}
use Rattle.article_parse.proofs.lines.is_paired.Given as goal

-- the octets passed have their line ends in pairs
abbrev pub invariant-loop-place : goal.invariant-loop-place
invariant-loop-place l = record {
  within : l.at ≤ length l.text;
  passed : is_paired l.text ≡ is_paired (drop l.at l.text);
}

abbrev pub decreases-loop-place : goal.decreases-loop-place
decreases-loop-place l = length l.text - l.at
