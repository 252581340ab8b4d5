use Rattle.std.proofs.Common.{◌≡◌, ◌+◌, ◌-◌, ◌∙◌, arith, refl}
use Rattle.relay_drill.specs.Todo.{round_each, write_each}
use Rattle.relay_drill.proofs.Courses.{fails_next, goes_next, goes_none, goes_on, goes_to}
use Rattle.relay_drill.proofs.Todos.{round_last, round_next, rounds_cut, writes_cut}
use Rattle.relay_drill.proofs.play.rounds.Goals as goal

pub loop-passed-init : goal.loop-passed-init
loop-passed-init g c = λ more.
    let all : c.args.count ≡ c.args.count - 0 = omega arith in
    rw (← all) (goes_none
    (round_each c.args.manner.groups c.args.now c.args.sessions.now c.args.count more)
    c.args.relay.now _)

pub loop-passed-preserved : goal.loop-passed-preserved
loop-passed-preserved g c = λ more.
    goes_on _ _ _ _ _ _ _ _ _
    (goes_next _ _ _ _ _ _ _ _ _ _
    (round_next c.args.manner.groups c.args.now c.loop-passed.passed c.args.count
    c.args.sessions.now more (omega arith))
    (c.loop-passed.invariant more) (c.in_ok-turn_all.ensures _))
    (c.in_ok-write_all.ensures _)

pub returns : goal.returns
returns g c = λ more.
    goes_to _ _ _ _ _ _ _
    (round_last c.args.manner.groups c.args.now c.loop-passed.passed c.args.count
    c.args.sessions.now more (omega arith))
    (c.loop-passed.invariant more)

pub returns-in_err-turn_all : goal.returns-in_err-turn_all
returns-in_err-turn_all g c = λ more.
    let later = round_each c.args.manner.groups c.args.now c.args.sessions.now
    (c.args.count - (c.loop-passed.passed + 1)) more in
    fails_next _ _ c.from_residual.result _ _ _ (write_each c.args.now 0 c.args.manner.groups later)
    more _ _ _ _ _ _ c.from_residual.ensures.0
    c.from_residual.ensures.1
    (round_next c.args.manner.groups c.args.now c.loop-passed.passed c.args.count
    c.args.sessions.now more (omega arith))
    (writes_cut c.args.now 0 c.args.manner.groups later
    ∙ rounds_cut c.args.manner.groups c.args.now c.args.sessions.now
    (c.args.count - (c.loop-passed.passed + 1)) more)
    (c.loop-passed.invariant more)
    (c.in_err-turn_all.ensures (write_each c.args.now 0 c.args.manner.groups later))

pub returns-in_err-write_all : goal.returns-in_err-write_all
returns-in_err-write_all g c = λ more.
    let later = round_each c.args.manner.groups c.args.now c.args.sessions.now
    (c.args.count - (c.loop-passed.passed + 1)) more in
    fails_next _ _ c.from_residual-in_err-write_all.result _ _ _ later more _ _ _ _ _ _
    c.from_residual-in_err-write_all.ensures.0 c.from_residual-in_err-write_all.ensures.1 refl
    (rounds_cut c.args.manner.groups c.args.now c.args.sessions.now
    (c.args.count - (c.loop-passed.passed + 1)) more)
    (goes_next _ _ _ _ _ _ _ _ _ _
    (round_next c.args.manner.groups c.args.now c.loop-passed.passed c.args.count
    c.args.sessions.now more (omega arith))
    (c.loop-passed.invariant more) (c.in_ok-turn_all.ensures _))
    (c.in_err-write_all.ensures later)
