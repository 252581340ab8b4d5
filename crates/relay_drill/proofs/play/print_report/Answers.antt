use Rattle.relay_drill.proofs.Courses.{fails_unwritten, goes_none, wants_memory}
use Rattle.relay_drill.proofs.Events.{breaks_told, goes_told, tells_report}
use Rattle.relay_drill.specs.Todo.{Report}
use Rattle.relay_drill.proofs.play.print_report.Goals as goal

pub returns : goal.returns
returns g c = λ reasons armed more.
    goes_told _ more _ _ _ _ _
    (tells_report more c.args.relay.now c.in_ok-text.text.items c.in_ok-text.ensures)
    (rw c.deref.ensures.value at c.in_ok-put.ensures)

pub returns-in_err-text : goal.returns-in_err-text
returns-in_err-text g c = λ reasons armed more.
    wants_memory armed c.from_residual.result _ _ more _ _ c.args.relay.now _ _
    c.from_residual.ensures.0 c.from_residual.ensures.1 (goes_none (Report more) c.args.relay.now _)

pub returns-in_err-put : goal.returns-in_err-put
returns-in_err-put g c = λ reasons armed more.
    fails_unwritten armed c.from_residual-in_err-put.result _ more _ c.args.relay.now _ _
    c.from_residual-in_err-put.ensures.0 c.from_residual-in_err-put.ensures.1
    (breaks_told _ more _ _ _ _ _
    (tells_report more c.args.relay.now c.in_ok-text.text.items c.in_ok-text.ensures)
    (rw c.deref.ensures.value at c.in_err-put.ensures))
