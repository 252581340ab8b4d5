use Rattle.std.proofs.Common.{◌≡◌, ◌≤◌, ◌-◌, length, drop}
use Rattle.std.specs.List.{list_all}
use Rattle.news_terms.specs.Article.{is_white, without_crlf}
use Rattle.article_parse.proofs.content.is_blank.Given as goal

-- the octets passed are white or of a pair
abbrev pub invariant-loop-at : goal.invariant-loop-at
invariant-loop-at l = record {
  within : l.at ≤ length l.content;
  passed : list_all is_white (without_crlf (drop l.at l.content))
      ≡ list_all is_white (without_crlf l.content);
}

abbrev pub decreases-loop-at : goal.decreases-loop-at
decreases-loop-at l = length l.content - l.at
