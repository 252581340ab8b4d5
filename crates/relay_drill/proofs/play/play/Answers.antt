use Rattle.relay_drill.specs.Progress.{stand_view}
use Rattle.relay_drill.proofs.Courses.{fails_as, goes_next, goes_none, goes_to}
use Rattle.relay_drill.proofs.Todos.{line_next, line_last}
use Rattle.relay_drill.proofs.play.play.Goals as goal

pub loop-line-init : goal.loop-line-init
loop-line-init g c = rw c.new.ensures.items (goes_none _ c.args.life.relay _)

pub loop-line-preserved : goal.loop-line-preserved
loop-line-preserved g c =
    goes_next _ _ _ _ _ _ _ _ _ _
    (line_next c.args.manner.groups c.loop-line.line-index c.loop-line.stand.armed c.args.lines.now
    c.line-item.result (stand_view c.loop-line.stand) c.loop-line-test.true c.line-item.is)
    c.loop-line.invariant (c.in_ok-living.ensures _)

pub returns : goal.returns
returns g c =
    goes_to _ _ _ _ _ _ _
    (line_last c.args.manner.groups c.loop-line.line-index c.loop-line.stand.armed c.args.lines.now
    (stand_view c.loop-line.stand) c.loop-line-test.false)
    c.loop-line.invariant

pub returns-in_err-living : goal.returns-in_err-living
returns-in_err-living g c =
    fails_as _ c.from_residual.result _ _ _ _ _ _ _ _ _ c.from_residual.ensures.0
    c.from_residual.ensures.1
    (line_next c.args.manner.groups c.loop-line.line-index c.loop-line.stand.armed c.args.lines.now
    c.line-item.result (stand_view c.loop-line.stand) c.loop-line-test.true c.line-item.is)
    c.loop-line.invariant (c.in_err-living.ensures _)
