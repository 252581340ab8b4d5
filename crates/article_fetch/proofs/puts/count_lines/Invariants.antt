use Rattle.std.proofs.Common.{◌≡◌, ◌≤◌, take}
use Rattle.news_terms.specs.Overview.{line_count}
use Rattle.article_fetch.proofs.puts.count_lines.Given as goal

-- the lines so far are counted
abbrev pub invariant-loop-octet : goal.invariant-loop-octet
invariant-loop-octet l = record {
  few : l.lines ≤ l.octet-index;
  counted : l.lines ≡ line_count (take l.octet-index l.body);
}
