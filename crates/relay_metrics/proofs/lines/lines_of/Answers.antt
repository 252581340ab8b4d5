use Rattle.std.proofs.Common.{map}
use Rattle.relay_metrics.specs.Lines.{line_view}
use Rattle.relay_metrics.proofs.Cut.{one_part_more}
use Rattle.relay_metrics.proofs.lines.lines_of.Goals as goal

-- one part more
pub loop-unread-preserved : goal.loop-unread-preserved
loop-unread-preserved c =
    one_part_more (map line_view c.loop-unread.lines.items)
    (map line_view c.put_line.new.lines.items) c.loop-unread.unread c.in-Some.left
    c.cut.result.0.now c.cut.result.1 _ c.in-Some.is c.cut.ensures c.loop-unread.invariant
    (rw c.is_some.ensures at c.in_ok-put_line.ensures)
