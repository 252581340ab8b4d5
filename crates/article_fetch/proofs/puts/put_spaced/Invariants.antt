use Rattle.std.proofs.Common.{◌≡◌, ◌≤◌, ◌+◌, ◌-◌, ◌++◌, length, drop, vec_len, vec_capacity}
use Rattle.news_terms.specs.Article.{without_crlf}
use Rattle.news_terms.specs.Overview.{without_tabs}
use Rattle.article_fetch.proofs.puts.put_spaced.Given as goal

-- what was put and what is still to come are the text as it is to be put, for which there is room
abbrev pub invariant-loop-at : goal.invariant-loop-at
invariant-loop-at l = record {
  within : l.at ≤ length l.text;
  passed : l.room.items ++ without_tabs (without_crlf (drop l.at l.text))
      ≡ l.fn.room.items ++ without_tabs (without_crlf l.text);
  len : vec_len l.room + length (without_crlf (drop l.at l.text))
      ≡ vec_len l.fn.room + length (without_crlf l.text);
  capacity : vec_capacity l.room ≡ vec_capacity l.fn.room;
}

abbrev pub decreases-loop-at : goal.decreases-loop-at
decreases-loop-at l = length l.text - l.at
