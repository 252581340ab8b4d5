use Rattle.std.proofs.Common.{false, subst, sym}
use Rattle.relay_drill.specs.Progress.{Goes, stand_view}
use Rattle.relay_drill.specs.Todo.{Crashing, Stand, behind_line, deserted}
use Rattle.relay_drill.proofs.Behind.{crashes_once, passes_on}
use Rattle.relay_drill.proofs.Courses.{fails_at_crash}
use Rattle.relay_drill.proofs.Events.{breaks_told, crashes_again, goes_told, tells_repaired}
use Rattle.relay_drill.proofs.crashing.crash.Goals as goal

-- no crash is ahead
pub returns-then-not-stand : goal.returns-then-not-stand
returns-then-not-stand g c = λ reasons next.
    crashes_once reasons c.crash_once.result c.args.stand.now.moment c.args.stand.now.armed
    c.crash_once.new.stand.armed next (deserted (stand_view c.args.stand.now))
    (stand_view c.crash_once.new.stand) c.args.life _ _ c.if-not-stand.true
    c.crash_once.ensures.armed (c.crash_once.ensures.crashed reasons (next false))

-- one is ahead, and came in the repair
pub returns-then-is_gone : goal.returns-then-is_gone
returns-then-is_gone g c = λ reasons next.
    crashes_again reasons c.crash_once-then-is_gone.result c.args.stand.now.armed
    c.crash_once-then-is_gone.new.stand.armed next (stand_view c.args.stand.now)
    (stand_view c.crash_once-then-is_gone.new.stand) c.args.life c.in_ok-life.life _ _
    c.if-not-stand.false c.crash_once-then-is_gone.ensures.armed c.in_ok-life.ensures
    (c.crash_once-then-is_gone.ensures.crashed reasons (next false))

-- it didn't
pub returns-in-Ok : goal.returns-in-Ok
returns-in-Ok g c = λ reasons next.
    let stand = c.args.stand.now in
    let more = behind_line stand.armed next (deserted (stand_view stand)) in
    let later = c.desert.new.self.armed in
    let G : Stand → Type 0 = λ there. Goes reasons (Crashing stand.moment more)
    (next later there) c.args.life.relay c.in_ok-life.life.relay
    (g.W.Write.contents c.args.writer.now) (g.W.Write.contents c.print_repaired.new.writer) in
    subst G (sym c.desert.ensures.view)
    (passes_on reasons stand.armed later next (deserted (stand_view stand))
    (Crashing stand.moment more) c.args.life.relay c.in_ok-life.life.relay _ _ c.desert.ensures.armed
    (goes_told _ _ _ _ _ _ _
    (tells_repaired stand.moment more c.args.life.relay c.in_ok-life.life.relay
    c.in_ok-life.ensures) c.in-Ok.ensures))

pub returns-in-Err : goal.returns-in-Err
returns-in-Err g c = λ reasons next.
    let stand = c.args.stand.now in
    breaks_told _ _ _ _ _ _ _
    (tells_repaired stand.moment (behind_line stand.armed next (deserted (stand_view stand)))
    c.args.life.relay c.in_ok-life.life.relay c.in_ok-life.ensures) c.in-Err.ensures

pub returns-in_err-life : goal.returns-in_err-life
returns-in_err-life g c = λ reasons next.
    let stand = c.args.stand.now in
    fails_at_crash reasons _ c.from_residual.result _ stand.moment
    (behind_line stand.armed next (deserted (stand_view stand))) c.args.life.relay
    (g.W.Write.contents c.args.writer.now) c.from_residual.ensures.0 c.from_residual.ensures.1
    c.in_err-life.ensures
