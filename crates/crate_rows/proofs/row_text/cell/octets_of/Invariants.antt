use Rattle.std.proofs.Common.{length}
use Rattle.line_words.specs.Parts.{parts_after}
use Rattle.crate_rows.proofs.row_text.cell.octets_of.Given as goal

abbrev pub decreases-loop-unread : goal.decreases-loop-unread
decreases-loop-unread l = length (parts_after 92 l.unread)
