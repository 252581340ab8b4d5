use Rattle.relay_core.specs.Views.{event_view, output_view}
use Rattle.relay_drill.proofs.Courses.{fails_unwritten}
use Rattle.relay_drill.proofs.Events.{breaks_told, cuts_next, does_next, goes_told, loses_told}
use Rattle.relay_drill.proofs.Events.{tells_event}
use Rattle.relay_drill.proofs.play.perform.Goals as goal

pub returns : goal.returns
returns g c = λ more.
    goes_told _ _ _ _ _ _ _ (tells_event (event_view c.args.event) _ more c.args.relay.now
    c.step-output.result _ c.step-output.new.self
    (does_next (event_view c.args.event) more (output_view c.step-output.result))
    c.step-output.ensures.leaves c.step-output.ensures.frame)
    c.in_ok-printed.ensures

pub returns-in_err-printed : goal.returns-in_err-printed
returns-in_err-printed g c = λ more.
    fails_unwritten _ c.from_residual.result _ more _ _ _ _
    c.from_residual.ensures.0 c.from_residual.ensures.1
    (breaks_told _ _ _ _ _ _ _ (tells_event (event_view c.args.event) _ more c.args.relay.now
    c.step-output.result _ c.step-output.new.self
    (does_next (event_view c.args.event) more (output_view c.step-output.result))
    c.step-output.ensures.leaves c.step-output.ensures.frame)
    c.in_err-printed.ensures)

pub returns-then-is_cut : goal.returns-then-is_cut
returns-then-is_cut g c = λ more.
    loses_told c.args.manner.armed (event_view c.args.event) _ more c.args.relay.now
    c.step-output.result c.step-output.new.self _ (c.is_cut.ensures c.if-is_cut.true)
    (cuts_next (event_view c.args.event) more (output_view c.step-output.result))
    c.step-output.ensures.leaves c.step-output.ensures.frame
