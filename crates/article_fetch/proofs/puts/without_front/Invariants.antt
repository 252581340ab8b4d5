use Rattle.std.proofs.Common.{◌≡◌, ◌≤◌, ◌-◌, length, drop}
use Rattle.news_terms.specs.Article.{without_crlf}
use Rattle.article_fetch.proofs.puts.without_front.Given as goal

-- what was passed are CRLF pairs
abbrev pub invariant-loop-at : goal.invariant-loop-at
invariant-loop-at l = record {
  within : l.at ≤ length l.content;
  passed : without_crlf (drop l.at l.content) ≡ without_crlf l.content;
}

abbrev pub decreases-loop-at : goal.decreases-loop-at
decreases-loop-at l = length l.content - l.at
