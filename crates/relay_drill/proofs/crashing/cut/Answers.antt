use Rattle.relay_drill.specs.Progress.{stand_view}
use Rattle.relay_drill.specs.Todo.{deserted}
use Rattle.relay_drill.proofs.Courses.{fails_at_crash}
use Rattle.relay_drill.proofs.Crashes.{memory_fails, noted_again}
use Rattle.relay_drill.proofs.crashing.cut.Goals as goal

-- what was noted is no other relay
pub returns-clause-crashed : goal.returns-clause-crashed
returns-clause-crashed g c = λ reasons next.
    noted_again reasons c.crash_once.result _ _ c.args.life c.in_ok-life.life _ _
    c.in_ok-life.ensures.relay (c.crash_once.ensures.crashed reasons next)

-- memory ran out before anything was done
pub returns-in_err-life-clause-crashed : goal.returns-in_err-life-clause-crashed
returns-in_err-life-clause-crashed g c = λ reasons next.
    let stand = stand_view c.args.stand.now in
    fails_at_crash reasons _ c.from_residual.result _ stand.moment (next (deserted stand))
    c.args.life.relay (g.W.Write.contents c.args.writer.now) c.from_residual.ensures.0
    c.from_residual.ensures.1 (memory_fails _ c.in_err-life.ensures.memory)
