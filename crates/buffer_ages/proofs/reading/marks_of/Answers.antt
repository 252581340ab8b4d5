use Rattle.buffer_ages.proofs.Nexts.{one_more}
use Rattle.buffer_ages.proofs.reading.marks_of.Goals as goal

-- the marks so far, with the next, stand before those that are left
pub loop-line-preserved : goal.loop-line-preserved
loop-line-preserved c =
    one_more c.args.name.now c.loop-line.last c.next_mark-next.result c.newer-last.result
    c.args.lines.now c.loop-line.line-index _ c.loop-line.marks.items c.put_mark.new.marks.items _
    c.loop-line-test.true c.loop-line.invariant c.next_mark-next.ensures c.in_ok-put_mark.ensures
    c.newer-last.ensures
