use Rattle.std.proofs.Common.{◌+◌, drop}
use Rattle.relay_drill.specs.Todo.{turn_each}
use Rattle.relay_drill.proofs.Courses.{fails_next, goes_next, goes_none, goes_to}
use Rattle.relay_drill.proofs.Todos.{turn_last, turn_next, turns_cut}
use Rattle.relay_drill.proofs.play.turn_all.Goals as goal

pub loop-session-init : goal.loop-session-init
loop-session-init g c = λ more.
    goes_none (turn_each c.args.now c.args.sessions.now more) c.args.relay.now _

pub loop-session-preserved : goal.loop-session-preserved
loop-session-preserved g c = λ more.
    goes_next _ _ _ _ _ _ _ _ _ _
    (turn_next c.args.now c.loop-session.session-index c.args.sessions.now more
    c.loop-session-test.true)
    (c.loop-session.invariant more) (c.in_ok-turn_open.ensures _)

pub returns : goal.returns
returns g c = λ more.
    goes_to _ _ _ _ _ _ _
    (turn_last c.args.now c.loop-session.session-index c.args.sessions.now more
    c.loop-session-test.false)
    (c.loop-session.invariant more)

pub returns-in_err-turn_open : goal.returns-in_err-turn_open
returns-in_err-turn_open g c = λ more.
    let later = turn_each c.args.now (drop (c.loop-session.session-index + 1) c.args.sessions.now)
    more in
    fails_next _ _ c.from_residual.result _ _ _ later more _ _ _ _ _ _ c.from_residual.ensures.0
    c.from_residual.ensures.1
    (turn_next c.args.now c.loop-session.session-index c.args.sessions.now more
    c.loop-session-test.true)
    (turns_cut c.args.now (drop (c.loop-session.session-index + 1) c.args.sessions.now) more)
    (c.loop-session.invariant more) (c.in_err-turn_open.ensures later)
