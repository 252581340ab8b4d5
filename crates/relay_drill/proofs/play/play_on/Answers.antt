use Rattle.std.proofs.Common.{Bool, false, subst, sym}
use Rattle.relay_drill.specs.Progress.{Leads, stand_view}
use Rattle.relay_drill.specs.Todo.{Crashing, Todo, behind_line, deserted, line_asks}
use Rattle.relay_drill.specs.Fault.{line_view}
use Rattle.relay_drill.proofs.Behind.{comes_to_cut, passes_on}
use Rattle.relay_drill.proofs.Courses.{cut_loses, faulty_fails, leads_on}
use Rattle.relay_drill.proofs.Crashes.{noted_leads}
use Rattle.relay_drill.proofs.play.play_on.Goals as goal

pub returns-in-Ok : goal.returns-in-Ok
returns-in-Ok g c = λ next.
    noted_leads c.noted.result _ _ c.args.life
    (record c.args.life { relay = c.play_line.new.relay }) _ _ c.noted.ensures.relay
    c.noted.ensures.memory
    (passes_on c.args.manner.reasons c.args.stand.now.armed c.play_line.new.stand.armed next
    (stand_view c.play_line.new.stand) _ c.args.life.relay c.play_line.new.relay _ _
    c.play_line.ensures.armed
    (c.in-Ok.ensures.done (behind_line c.args.stand.now.armed next)))

pub returns-in-Err-Cut : goal.returns-in-Err-Cut
returns-in-Err-Cut g c = λ next.
    let reasons = c.args.manner.reasons in
    let armed = c.args.stand.now.armed in
    let line = line_asks c.args.manner.groups (line_view c.args.line.now)
    (stand_view c.args.stand.now) (behind_line armed next) in
    let mid = record c.args.life { relay = c.play_line.new.relay } in
    let there = stand_view c.play_line.new.stand in
    let P : Bool → Type 0 = λ later. Leads reasons c.cut.result line
    (next later (stand_view c.cut.new.stand)) c.args.life
    (g.W.Write.contents c.args.writer.now) (g.W.Write.contents c.cut.new.writer) in
    subst P (sym c.cut.ensures.armed)
    (leads_on reasons c.cut.result line (Crashing there.moment (next false (deserted there)))
    (next false (stand_view c.cut.new.stand)) c.args.life mid _ _ _
    (comes_to_cut reasons armed next there line c.args.life.relay c.play_line.new.relay _ _
    (cut_loses _ _ _ _ c.in-Err-Cut.field-0 c.in-Err-Cut.field-0-is
    (c.in-Err-Cut.ensures.done (behind_line armed next))))
    (c.cut.ensures.crashed reasons (next false)))

pub returns-in-Err-Faulty : goal.returns-in-Err-Faulty
returns-in-Err-Faulty g c = λ next.
    faulty_fails _ _ _ _ c.in-Err-Faulty.field-0 c.in-Err-Faulty.error
    c.in-Err-Faulty.field-0-is
    (c.in-Err-Faulty.ensures.done (behind_line c.args.stand.now.armed next))
