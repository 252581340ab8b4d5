use Rattle.std.proofs.Common.{false, true, sym, ◌∙◌}
use Rattle.relay_core.proofs.Left.{left_agrees}
use Rattle.relay_drill.proofs.Courses.{performs_on}
use Rattle.relay_drill.proofs.Events.{goes_turning}
use Rattle.relay_drill.proofs.play.turn_open.Goals as goal

pub returns : goal.returns
returns g c = λ more.
    performs_on _ c.perform.result _ _ more _ _ _ _ _ _
    (goes_turning c.args.session c.args.now more c.args.relay.now _ true
    (λ config x under.
    sym (c.is_running.ensures true x (left_agrees c.args.relay.now x under.agrees))
    ∙ c.if-not-is_running.false))
    (c.perform.ensures more)

pub returns-then-not-is_running : goal.returns-then-not-is_running
returns-then-not-is_running g c = λ more.
    goes_turning c.args.session c.args.now more c.args.relay.now _ false
    (λ config x under.
    sym (c.is_running.ensures true x (left_agrees c.args.relay.now x under.agrees))
    ∙ c.if-not-is_running.true)
