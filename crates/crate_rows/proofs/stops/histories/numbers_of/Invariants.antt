use Rattle.std.proofs.Common.{length}
use Rattle.line_words.specs.Parts.{parts_after}
use Rattle.crate_rows.proofs.stops.histories.numbers_of.Given as goal

-- the words that are left
abbrev pub decreases-loop-unread : goal.decreases-loop-unread
decreases-loop-unread l = length (parts_after 44 l.unread)
