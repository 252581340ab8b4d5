use Rattle.std.proofs.Common.{Bool, subst, sym, true}
use Rattle.relay_drill.specs.Fault.{line_view}
use Rattle.relay_drill.specs.Progress.{Leads, stand_view}
use Rattle.relay_drill.specs.Todo.{behind_line, line_asks}
use Rattle.relay_drill.proofs.Behind.{goes_behind}
use Rattle.relay_drill.proofs.Courses.{goes_on}
use Rattle.relay_drill.proofs.Events.{goes_armed}
use Rattle.relay_drill.proofs.Lines.{same_armed}
use Rattle.relay_drill.proofs.play.play_one.Goals as goal

pub returns-in-Crash : goal.returns-in-Crash
returns-in-Crash g c = λ next. rw c.in-Crash.is (c.crash.ensures c.args.manner.reasons next)

pub returns-in-CrashAt : goal.returns-in-CrashAt
returns-in-CrashAt g c = λ next.
    let stand = stand_view c.args.stand.now in
    rw c.in-CrashAt.is (goes_on _ (behind_line true next stand) _ _ _ _ _ _ _
    (goes_armed (behind_line true next stand) c.args.life.relay _)
    (goes_behind true next stand c.args.life.relay _))

pub returns-in-Fail : goal.returns-in-Fail
returns-in-Fail g c = λ next.
    rw c.in-Fail.is (goes_behind c.args.stand.now.armed next (stand_view c.args.stand.now)
    c.args.life.relay (g.W.Write.contents c.args.writer.now))

-- no other line lets a crash be ahead
pub returns-in_default : goal.returns-in_default
returns-in_default g c = λ next.
    let P : Bool → Type 0 = λ armed. Leads c.args.manner.reasons c.play_on.result
    (line_asks c.args.manner.groups (line_view c.args.line.now) (stand_view c.args.stand.now)
    (behind_line armed next))
    (next c.play_on.new.stand.armed (stand_view c.play_on.new.stand)) c.args.life
    (g.W.Write.contents c.args.writer.now) (g.W.Write.contents c.play_on.new.writer) in
    subst P (sym (same_armed c.args.stand.now.armed c.args.line.now c.in_default.not-CrashAt))
    (c.play_on.ensures next)
