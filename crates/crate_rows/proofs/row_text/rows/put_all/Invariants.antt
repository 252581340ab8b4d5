use Rattle.std.proofs.Common.{length}
use Rattle.line_words.specs.Parts.{parts_after}
use Rattle.crate_rows.proofs.row_text.rows.put_all.Given as goal

abbrev pub decreases-loop-unread : goal.decreases-loop-unread
decreases-loop-unread g l = length (parts_after 10 l.unread)
