use Rattle.std.proofs.Common.{subst, sym}
use Rattle.relay_drill.specs.Progress.{Goes, stand_view}
use Rattle.relay_drill.specs.Todo.{Crashing, Stand, deserted}
use Rattle.relay_drill.proofs.Courses.{fails_at_crash}
use Rattle.relay_drill.proofs.Events.{breaks_told, goes_told, tells_repaired}
use Rattle.relay_drill.proofs.crashing.crash_once.Goals as goal

-- it was found again, and that was written
pub returns-in-Ok-clause-crashed : goal.returns-in-Ok-clause-crashed
returns-in-Ok-clause-crashed g c = λ reasons next.
    let stand = c.args.stand.now in
    let more = next (deserted (stand_view stand)) in
    let G : Stand → Type 0 = λ there. Goes reasons (Crashing stand.moment more) (next there)
    c.args.life.relay c.in_ok-found.found.relay (g.W.Write.contents c.args.writer.now)
    (g.W.Write.contents c.print_repaired.new.writer) in
    subst G (sym c.desert.ensures.view)
    (goes_told _ _ _ _ _ _ _
    (tells_repaired stand.moment more c.args.life.relay c.in_ok-found.found.relay
    c.in_ok-found.ensures) c.in-Ok.ensures)

pub returns-in-Err-clause-crashed : goal.returns-in-Err-clause-crashed
returns-in-Err-clause-crashed g c = λ reasons next.
    let stand = c.args.stand.now in
    breaks_told _ _ _ _ _ _ _
    (tells_repaired stand.moment (next (deserted (stand_view stand))) c.args.life.relay
    c.in_ok-found.found.relay c.in_ok-found.ensures) c.in-Err.ensures

pub returns-in_err-found-clause-crashed : goal.returns-in_err-found-clause-crashed
returns-in_err-found-clause-crashed g c = λ reasons next.
    let stand = c.args.stand.now in
    fails_at_crash reasons _ c.from_residual.result _ stand.moment
    (next (deserted (stand_view stand))) c.args.life.relay
    (g.W.Write.contents c.args.writer.now) c.from_residual.ensures.0 c.from_residual.ensures.1
    c.in_err-found.ensures
