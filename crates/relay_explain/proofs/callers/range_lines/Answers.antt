use Rattle.std.proofs.Common.{◌<◌, [], arith, length}
use Rattle.relay_explain.proofs.RangeLines.{all_lines, one_line_more}
use Rattle.relay_explain.proofs.callers.range_lines.Goals as goal

pub loop-at-preserved : goal.loop-at-preserved
loop-at-preserved c =
    let there : c.loop-at.at < length c.args.lines.now = omega (arith, c.loop-at-test.true) in
    one_line_more c.args.name.now c.args.lines.now c.loop-at.at
    (record { ref_ptr = (0, 0); now = [] }) _ _ there c.loop-at.invariant
    c.in_ok-push_numbers.ensures

pub returns : goal.returns
returns c =
    all_lines c.args.name.now c.args.lines.now c.loop-at.at _ c.loop-at-test.false
    c.loop-at.invariant
