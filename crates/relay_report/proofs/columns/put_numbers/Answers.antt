use Rattle.relay_report.proofs.Lines.{line_ends, one_column}
use Rattle.relay_report.proofs.columns.put_numbers.Goals as goal

-- one column more
pub loop-column-preserved : goal.loop-column-preserved
loop-column-preserved c =
    one_column c.args.text.now.items c.loop-column.text.items c.put_number.new.text.items
    c.args.columns.now c.loop-column.column-index c.loop-column-test.true c.loop-column.invariant
    c.in_ok-put_number.ensures

-- the line ends
pub returns : goal.returns
returns c =
    line_ends c.extend_from_slice.result c.args.text.now.items c.loop-column.text.items
    c.extend_from_slice.new.self.items c.args.columns.now c.loop-column.column-index
    c.loop-column-test.false c.loop-column.invariant c.extend_from_slice.ensures.items
