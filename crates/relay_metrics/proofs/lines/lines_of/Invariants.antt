use Rattle.std.proofs.Common.{◌≡◌, ◌++◌, map, length}
use Rattle.line_words.specs.Parts.{parts_after}
use Rattle.news_terms.specs.Lines.{line_feed}
use Rattle.relay_metrics.specs.Lines.{line_view, lines_left, report_lines}
use Rattle.relay_metrics.proofs.lines.lines_of.Given as goal

-- what was read stands before what is left
abbrev pub invariant-loop-unread : goal.invariant-loop-unread
invariant-loop-unread l = map line_view l.lines.items ++ lines_left l.unread ≡ report_lines l.report

abbrev pub decreases-loop-unread : goal.decreases-loop-unread
decreases-loop-unread l = length (parts_after line_feed l.unread)
