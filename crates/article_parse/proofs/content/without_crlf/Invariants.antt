use Rattle.std.proofs.Common.{◌≡◌, ◌≤◌, ◌-◌, ◌++◌, length, drop}
use Rattle.news_terms.specs.Article.{without_crlf}
use Rattle.article_parse.proofs.content.without_crlf.Given as goal

-- what was kept and what is still to come are the text without its pairs
abbrev pub invariant-loop-at : goal.invariant-loop-at
invariant-loop-at l = record {
  within : l.at ≤ length l.text;
  passed : l.kept.items ++ without_crlf (drop l.at l.text) ≡ without_crlf l.text;
}

abbrev pub decreases-loop-at : goal.decreases-loop-at
decreases-loop-at l = length l.text - l.at
