use Rattle.std.proofs.Common.{◌++◌, drop}
use Rattle.relay_adding.specs.Telling.{added_lines}
use Rattle.relay_adding.proofs.AddedLines.{line_more, lines_done}
use Rattle.relay_adding.proofs.text.put_lines.Goals as goal

-- one line more,
pub loop-number-preserved : goal.loop-number-preserved
loop-number-preserved c =
    line_more (c.args.text.now.items
    ++ added_lines c.args.first c.args.stop (drop c.args.first c.args.buffers.now))
    c.loop-number.text.items c.put_line.new.text.items c.loop-number.number c.args.stop
    c.args.buffers.now c.index-buffers-number.result c.loop-number-test.true
    c.index-buffers-number.is c.loop-number.invariant c.in_ok-put_line.ensures

-- and that was the last
pub returns : goal.returns
returns c =
    lines_done (c.args.text.now.items
    ++ added_lines c.args.first c.args.stop (drop c.args.first c.args.buffers.now))
    c.loop-number.text.items c.loop-number.number c.args.stop c.args.buffers.now
    c.loop-number-test.false c.loop-number.invariant
