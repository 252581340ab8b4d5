use Rattle.std.proofs.Common.{◌<◌, ◌∙◌, length, sym, subst, List, Err, Ok, ℕ}
use Rattle.relay_drill.specs.Progress.{Performs, stand_view}
use Rattle.relay_drill.specs.Todo.{at_moment, bring_each, deserted}
use Rattle.relay_drill.proofs.Courses.{goes_none, kills_there}
use Rattle.relay_drill.proofs.Events.{goes_armed}
use Rattle.relay_drill.proofs.Lines.{done_for}
use Rattle.relay_drill.specs.declared.fault.DrillError.TheVariants.{Unrepaired}
use Rattle.relay_drill.specs.declared.fault.Ended.TheVariants as ends
use Rattle.relay_drill.proofs.play.play_line.Goals as goal

-- octets that are lent twice are as many both times
pub bring-requires : goal.bring-requires
bring-requires g c =
    let same = c.deref-in-Bring.ensures.value ∙ sym c.deref.ensures.value in
    λ some. c.piece_size-size.ensures.some
    (subst (λ (octets : List ℕ). 0 < length octets) same some)

pub returns-in-Open-clause-done : goal.returns-in-Open-clause-done
returns-in-Open-clause-done g c = λ next.
    done_for c.args.manner.reasons c.args.manner.armed _ _ _ _ _ _ c.args.manner.groups
    c.args.line.now _ (stand_view c.args.stand.now) next
    c.in-Open.is (c.open.ensures.done next)

pub returns-in-Bring-clause-done : goal.returns-in-Bring-clause-done
returns-in-Bring-clause-done g c = λ next.
    let stand = stand_view c.args.stand.now in
    let octets = c.in-Bring.octets.items in
    let pieces = rw c.deref.ensures.value at c.piece_size-size.ensures.pieces in
    let bring = rw c.deref-in-Bring.ensures.value at c.bring.ensures in
    let P : List (List ℕ) → Type 0 = λ them. Performs c.args.manner.reasons
    c.args.manner.armed c.bring.result (bring_each c.in-Bring.session them (next stand)) (next
    stand) c.args.relay.now c.bring.new.relay (g.W.Write.contents c.args.writer.now)
    (g.W.Write.contents c.bring.new.writer) in
    done_for c.args.manner.reasons c.args.manner.armed _ _ _ _ _ _ c.args.manner.groups
    c.args.line.now _ (stand_view c.args.stand.now) next
    c.in-Bring.is (subst P (sym pieces) (bring (next stand)))

pub returns-in-Split-clause-done : goal.returns-in-Split-clause-done
returns-in-Split-clause-done g c = λ next.
    done_for c.args.manner.reasons c.args.manner.armed (Ok tt) c.args.relay.now c.args.relay.now
    (g.W.Write.contents c.args.writer.now) (g.W.Write.contents c.args.writer.now) _
    c.args.manner.groups c.args.line.now _ (stand_view c.args.stand.now) next
    c.in-Split.is (goes_none _ c.args.relay.now _)

pub returns-in-Turn-clause-done : goal.returns-in-Turn-clause-done
returns-in-Turn-clause-done g c = λ next.
    done_for c.args.manner.reasons c.args.manner.armed _ _ _ _ _ _ c.args.manner.groups
    c.args.line.now _ (stand_view c.args.stand.now) next
    c.in-Turn.is (c.perform.ensures (next (at_moment (stand_view c.args.stand.now) c.in-Turn.now)))

pub returns-in-Write-clause-done : goal.returns-in-Write-clause-done
returns-in-Write-clause-done g c = λ next.
    done_for c.args.manner.reasons c.args.manner.armed _ _ _ _ _ _ c.args.manner.groups
    c.args.line.now _ (stand_view c.args.stand.now) next
    c.in-Write.is (c.perform-in-Write.ensures
    (next (at_moment (stand_view c.args.stand.now) c.in-Write.now)))

pub returns-in-Rounds-clause-done : goal.returns-in-Rounds-clause-done
returns-in-Rounds-clause-done g c = λ next.
    let rounds = rw c.deref-in-Rounds.ensures.value at c.rounds.ensures in
    done_for c.args.manner.reasons c.args.manner.armed _ _ _ _ _ _ c.args.manner.groups
    c.args.line.now _ (stand_view c.args.stand.now) next
    c.in-Rounds.is (rounds (next (at_moment (stand_view c.args.stand.now) c.in-Rounds.now)))

pub returns-in-Break-clause-done : goal.returns-in-Break-clause-done
returns-in-Break-clause-done g c = λ next.
    done_for c.args.manner.reasons c.args.manner.armed _ _ _ _ _ _ c.args.manner.groups
    c.args.line.now _ (stand_view c.args.stand.now) next
    c.in-Break.is (c.perform-in-Break.ensures (next (stand_view c.args.stand.now)))

pub returns-in-Expire-clause-done : goal.returns-in-Expire-clause-done
returns-in-Expire-clause-done g c = λ next.
    done_for c.args.manner.reasons c.args.manner.armed _ _ _ _ _ _ c.args.manner.groups
    c.args.line.now _ (stand_view c.args.stand.now) next
    c.in-Expire.is (c.perform-in-Expire.ensures
    (next (at_moment (stand_view c.args.stand.now) c.in-Expire.now)))

pub returns-in-Fail-clause-done : goal.returns-in-Fail-clause-done
returns-in-Fail-clause-done g c = λ next.
    done_for c.args.manner.reasons c.args.manner.armed (Ok tt) c.args.relay.now c.args.relay.now
    (g.W.Write.contents c.args.writer.now) (g.W.Write.contents c.args.writer.now) _
    c.args.manner.groups c.args.line.now _ (stand_view c.args.stand.now) next
    c.in-Fail.is (goes_none _ c.args.relay.now _)

pub returns-in-Restart-clause-done : goal.returns-in-Restart-clause-done
returns-in-Restart-clause-done g c = λ next.
    done_for c.args.manner.reasons c.args.manner.armed _ _ _ _ _ _ c.args.manner.groups
    c.args.line.now _ (stand_view c.args.stand.now) next
    c.in-Restart.is
    (c.restart.ensures (next (stand_view c.args.stand.now)))

pub returns-in-Report-clause-done : goal.returns-in-Report-clause-done
returns-in-Report-clause-done g c = λ next.
    done_for c.args.manner.reasons c.args.manner.armed _ _ _ _ _ _ c.args.manner.groups
    c.args.line.now _ (stand_view c.args.stand.now) next
    c.in-Report.is
    (c.print_report.ensures c.args.manner.reasons c.args.manner.armed (next (stand_view
    c.args.stand.now)))

pub returns-in-Crash-clause-done : goal.returns-in-Crash-clause-done
returns-in-Crash-clause-done g c = λ next.
    let stand = stand_view c.args.stand.now in
    done_for c.args.manner.reasons c.args.manner.armed (Err (ends.Faulty Unrepaired))
    c.args.relay.now c.args.relay.now
    (g.W.Write.contents c.args.writer.now) (g.W.Write.contents c.args.writer.now) (next stand)
    c.args.manner.groups c.args.line.now _ stand next
    c.in-Crash.is
    (kills_there _ stand.moment (next (deserted stand)) c.args.relay.now c.args.relay.now _ _
    (goes_none _ c.args.relay.now _))

pub returns-in-CrashAt-clause-done : goal.returns-in-CrashAt-clause-done
returns-in-CrashAt-clause-done g c = λ next.
    done_for c.args.manner.reasons c.args.manner.armed (Ok tt) c.args.relay.now c.args.relay.now
    (g.W.Write.contents c.args.writer.now) (g.W.Write.contents c.args.writer.now) _
    c.args.manner.groups c.args.line.now _ (stand_view c.args.stand.now) next
    c.in-CrashAt.is (goes_armed (next (stand_view c.args.stand.now)) c.args.relay.now _)
