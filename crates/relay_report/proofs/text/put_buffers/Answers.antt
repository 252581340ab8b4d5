use Rattle.relay_report.proofs.Lines.{all_lines, one_line}
use Rattle.relay_report.specs.Figures.{buffer_view}
use Rattle.relay_report.specs.Text.{buffer_line}
use Rattle.relay_report.proofs.text.put_buffers.Goals as goal

-- one line more
pub loop-buffer-preserved : goal.loop-buffer-preserved
loop-buffer-preserved c =
    one_line buffer_line buffer_view c.args.text.now.items c.loop-buffer.text.items
    c.put_buffer.new.text.items c.args.buffers.now c.loop-buffer.buffer-index c.buffer-item.result
    c.loop-buffer-test.true c.buffer-item.is c.loop-buffer.invariant c.in_ok-put_buffer.ensures

-- that was the last
pub returns : goal.returns
returns c =
    all_lines buffer_line buffer_view c.args.text.now.items c.loop-buffer.text.items
    c.args.buffers.now c.loop-buffer.buffer-index c.loop-buffer-test.false c.loop-buffer.invariant
