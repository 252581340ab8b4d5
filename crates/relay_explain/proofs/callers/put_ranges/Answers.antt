use Rattle.std.proofs.Common.{◌<◌, arith, length}
use Rattle.relay_explain.specs.Callers.{said_range_text}
use Rattle.relay_explain.proofs.Told.{told_each, told_next}
use Rattle.relay_explain.proofs.Puts.{nothing}
use Rattle.relay_explain.proofs.callers.put_ranges.Goals as goal

pub loop-said-init : goal.loop-said-init
loop-said-init c = nothing _

pub loop-said-preserved : goal.loop-said-preserved
loop-said-preserved c =
    let there : c.loop-said.said-index < length c.args.all.now =
    omega (arith, c.loop-said-test.true) in
    told_next (said_range_text c.args.name.now c.args.all.now) c.args.all.now
    c.loop-said.said-index _ there c.loop-said.invariant c.put_range-text.ensures

pub returns : goal.returns
returns c =
    told_each (said_range_text c.args.name.now c.args.all.now) c.args.all.now
    c.loop-said.said-index (omega (arith, c.loop-said-test.false)) c.loop-said.invariant
