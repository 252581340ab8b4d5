use Rattle.std.proofs.Common.{◌≡◌, ◌+◌, ◌≤◌, drop, length, map}
use Rattle.news_terms.specs.Article.{contents_of}
use Rattle.article_parse.specs.Header.{field_view}
use Rattle.article_parse.proofs.faults.times.Given as goal

-- those counted so far and those to come are all of the name
abbrev pub invariant-loop-field : goal.invariant-loop-field
invariant-loop-field l = record {
  few : l.times ≤ l.field-index;
  counted : l.times + length (contents_of l.name (map field_view (drop l.field-index l.fields)))
      ≡ length (contents_of l.name (map field_view l.fields));
}
