-- What is reported of a relay in threads, once all its seats have come back (docs/FORMATS.md,
-- Report).
use Rattle.std.specs.Prelude.{ℕ, List, map}
use Rattle.relay_report.specs.Figures.{buffer_view, feed_view}
use Rattle.relay_report.specs.Text.{report_text}
use Rattle.relay_report.specs.declared.totals.Totals.{Totals}

-- the report of the totals: a line for each buffer, for each feed and for the message-ids, as in a
-- relay's own; what was accepted and posted, and the mismatched receipts, have no line
abbrev pub text_of_totals : Totals → List ℕ
text_of_totals totals =
    let figures = totals.figures in
    report_text (map buffer_view figures.buffers.items) (map feed_view figures.feeds.items)
    figures.ids
