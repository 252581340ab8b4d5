use Rattle.relay_core.proofs.Fillings.{above_all, above_more}
use Rattle.relay_core.proofs.ahead.is_more.Goals as goal

-- what one buffer has stored is taken off
pub loop-one-preserved : goal.loop-one-preserved
loop-one-preserved c =
    above_more c.loop-one.above c.saturating_sub-above.result _ c.in-Some.one.now
    c.in-Some.others.now c.loop-one.left.now c.in-Some.ensures.cases.0
    c.saturating_sub-above.ensures c.loop-one.invariant

-- nothing is left to take off
pub returns : goal.returns
returns c =
    above_all c.loop-one.above c.args.gained _ c.loop-one.left.now c.in_default.ensures.cases
    c.loop-one.invariant
