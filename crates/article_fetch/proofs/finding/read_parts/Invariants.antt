use Rattle.std.proofs.Common.{◌-◌, List, length}
use Rattle.news_terms.specs.Article.{Field}
use Rattle.article_parse.specs.Header.{AreFieldsTo}
use Rattle.article_fetch.specs.Parts.{AreFoundIn}
use Rattle.article_fetch.proofs.finding.read_parts.Given as goal

-- fields stand in front of the place, and the contents found are theirs
abbrev pub invariant-loop-field : goal.invariant-loop-field
invariant-loop-field l =
    (fields : List Field) × AreFieldsTo l.text fields l.at × AreFoundIn fields l.found

abbrev pub decreases-loop-field : goal.decreases-loop-field
decreases-loop-field l = length l.text - l.at
