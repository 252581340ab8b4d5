use Rattle.std.proofs.Common.{◌-◌, List, length}
use Rattle.news_terms.specs.Article.{Field}
use Rattle.article_parse.specs.Header.{AreFieldsTo}
use Rattle.article_fetch.proofs.layout.header_end.Given as goal

-- fields stand in front of the place
abbrev pub invariant-loop-octets : goal.invariant-loop-octets
invariant-loop-octets l = (fields : List Field) × AreFieldsTo l.text fields l.at

abbrev pub decreases-loop-octets : goal.decreases-loop-octets
decreases-loop-octets l = length l.text - l.at
