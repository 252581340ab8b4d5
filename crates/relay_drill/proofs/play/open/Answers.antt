use Rattle.std.proofs.Common.{List, false, refl, subst, sym, true, ℕ, ◌∙◌}
use Rattle.relay_core.specs.Views.{output_view}
use Rattle.relay_drill.specs.Play.{is_refused}
use Rattle.relay_drill.specs.Print.{Answered}
use Rattle.relay_drill.specs.Progress.{Goes, stand_view}
use Rattle.relay_drill.specs.Todo.{Opening, with_session}
use Rattle.relay_drill.proofs.Courses.{fails_unwritten, wants_memory}
use Rattle.relay_drill.proofs.Events.{breaks_told, does_open, goes_open, tells_event}
use Rattle.relay_drill.proofs.play.open.Goals as goal

pub returns-then-refused-clause-done : goal.returns-then-refused-clause-done
returns-then-refused-clause-done g c = λ next.
    let stand = stand_view c.args.stand.now in
    goes_open c.args.session c.args.peer (next (with_session stand c.args.session)) (next stand)
    c.args.relay.now c.step-output.new.self c.step-output.result true
    (g.W.Write.contents c.args.writer.now) (g.W.Write.contents c.print-printed.new.writer)
    (sym c.is_refused-refused.ensures ∙ c.if-refused.true) c.step-output.ensures.leaves
    c.step-output.ensures.frame c.in_ok-printed.ensures

pub returns-clause-done : goal.returns-clause-done
returns-clause-done g c = λ next.
    let stand = stand_view c.args.stand.now in
    let opened = next (with_session stand c.args.session) in
    let G : List ℕ → Type 0 = λ sessions. Goes c.args.manner.reasons
    (Opening c.args.session c.args.peer opened (next stand))
    (next (record stand { sessions = sessions })) c.args.relay.now c.step-output.new.self
    (g.W.Write.contents c.args.writer.now) (g.W.Write.contents c.print-printed.new.writer) in
    subst G (sym c.in_ok-push.ensures.items)
    (goes_open c.args.session c.args.peer opened (next stand) c.args.relay.now
    c.step-output.new.self c.step-output.result false (g.W.Write.contents c.args.writer.now)
    (g.W.Write.contents c.print-printed.new.writer)
    (sym c.is_refused-refused.ensures ∙ c.if-refused.false) c.step-output.ensures.leaves
    c.step-output.ensures.frame c.in_ok-printed.ensures)

pub returns-in_err-printed-clause-done : goal.returns-in_err-printed-clause-done
returns-in_err-printed-clause-done g c = λ next.
    let stand = stand_view c.args.stand.now in
    let opened = next (with_session stand c.args.session) in
    let output = output_view c.step-output.result in
    fails_unwritten _ c.from_residual.result _ _ _ _ _ _
    c.from_residual.ensures.0 c.from_residual.ensures.1
    (breaks_told _ _ _ _ _ _ _ (tells_event _ _ _ c.args.relay.now c.step-output.result
    (Answered output) c.step-output.new.self (does_open c.args.session c.args.peer opened
    (next stand) output (is_refused output) refl)
    c.step-output.ensures.leaves c.step-output.ensures.frame) c.in_err-printed.ensures)

pub returns-in_err-push-clause-done : goal.returns-in_err-push-clause-done
returns-in_err-push-clause-done g c = λ next.
    let stand = stand_view c.args.stand.now in
    wants_memory _ c.from_residual-in_err-push.result _ _ _ _ _ _ _ _
    c.from_residual-in_err-push.ensures.0 c.from_residual-in_err-push.ensures.1
    (goes_open c.args.session c.args.peer (next (with_session stand c.args.session)) (next stand)
    c.args.relay.now c.step-output.new.self c.step-output.result false
    (g.W.Write.contents c.args.writer.now) (g.W.Write.contents c.print-printed.new.writer)
    (sym c.is_refused-refused.ensures ∙ c.if-refused.false) c.step-output.ensures.leaves
    c.step-output.ensures.frame c.in_ok-printed.ensures)
