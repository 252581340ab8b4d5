use Rattle.std.proofs.Common.{◌-◌, length}
use Rattle.std.specs.Prelude.{map}
use Rattle.article_parse.specs.Header.{AreFieldsTo, field_view}
use Rattle.article_parse.proofs.header.read_header.Given as goal

-- the fields read stand in front of the place
abbrev pub invariant-loop-field : goal.invariant-loop-field
invariant-loop-field l = AreFieldsTo l.text (map field_view l.fields.items) l.at

abbrev pub decreases-loop-field : goal.decreases-loop-field
decreases-loop-field l = length l.text - l.at
