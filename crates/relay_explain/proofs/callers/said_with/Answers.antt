use Rattle.std.proofs.Common.{◌<◌, arith, length}
use Rattle.relay_explain.specs.Callers.{said_range}
use Rattle.relay_explain.proofs.Told.{made_all, made_more}
use Rattle.relay_explain.proofs.callers.said_with.Goals as goal

pub loop-number-preserved : goal.loop-number-preserved
loop-number-preserved c =
    let there : c.loop-number.number < length c.args.ranges.now =
    omega (arith, c.loop-number-test.true) in
    let pushed = rw c.number_at-line.ensures at c.in_ok-push.ensures.items in
    made_more (said_range c.args.numbers.now) c.args.ranges.now c.loop-number.number _ _ _ there
    c.loop-number.invariant pushed

pub returns : goal.returns
returns c =
    made_all (said_range c.args.numbers.now) c.args.ranges.now c.loop-number.number _
    c.loop-number-test.false c.loop-number.invariant
