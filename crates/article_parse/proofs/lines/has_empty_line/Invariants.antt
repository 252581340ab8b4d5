use Rattle.std.proofs.Common.{◌≡◌, ◌≤◌, ◌-◌, length, drop}
use Rattle.std.specs.Prelude.{IsTrue}
use Rattle.news_terms.specs.Article.{is_paired, has_empty_line}
use Rattle.article_parse.proofs.lines.has_empty_line.Given as goal

-- the lines passed are not empty
abbrev pub invariant-loop-end : goal.invariant-loop-end
invariant-loop-end l = record {
  within : l.at ≤ length l.text;
  paired : IsTrue (is_paired (drop l.at l.text));
  passed : has_empty_line l.text ≡ has_empty_line (drop l.at l.text);
}

abbrev pub decreases-loop-end : goal.decreases-loop-end
decreases-loop-end l = length l.text - l.at
