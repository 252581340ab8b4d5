use Rattle.relay_core.specs.Views.{output_view}
use Rattle.relay_model.specs.Run.{Restart}
use Rattle.relay_drill.proofs.Courses.{fails_unwritten}
use Rattle.relay_drill.proofs.Events.{breaks_told, cuts_restart, does_restart, goes_told}
use Rattle.relay_drill.proofs.Events.{loses_told, tells_event}
use Rattle.relay_drill.proofs.play.restart.Goals as goal

pub returns : goal.returns
returns g c = λ more.
    goes_told _ _ _ _ _ _ _ (tells_event Restart _ more c.args.relay.now
    c.step-output.result _ c.step-output.new.self
    (does_restart more (output_view c.step-output.result))
    c.step-output.ensures.leaves c.step-output.ensures.frame)
    c.in_ok-printed.ensures

pub returns-in_err-printed : goal.returns-in_err-printed
returns-in_err-printed g c = λ more.
    fails_unwritten _ c.from_residual.result _ more _ _ _ _
    c.from_residual.ensures.0 c.from_residual.ensures.1
    (breaks_told _ _ _ _ _ _ _ (tells_event Restart _ more c.args.relay.now
    c.step-output.result _ c.step-output.new.self
    (does_restart more (output_view c.step-output.result))
    c.step-output.ensures.leaves c.step-output.ensures.frame)
    c.in_err-printed.ensures)

pub returns-then-is_cut : goal.returns-then-is_cut
returns-then-is_cut g c = λ more.
    loses_told c.args.manner.armed Restart _ more c.args.relay.now
    c.step-output.result c.step-output.new.self _ (c.is_cut.ensures c.if-is_cut.true)
    (cuts_restart more (output_view c.step-output.result))
    c.step-output.ensures.leaves c.step-output.ensures.frame
