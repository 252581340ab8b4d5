use Rattle.std.proofs.Common.{◌≡◌, ◌+◌, ◌-◌, arith}
use Rattle.relay_drill.specs.Todo.{write_each}
use Rattle.relay_drill.proofs.Courses.{fails_next, goes_next, goes_none, goes_to}
use Rattle.relay_drill.proofs.Todos.{write_last, write_next, writes_cut}
use Rattle.relay_drill.proofs.play.write_all.Goals as goal

pub loop-group-init : goal.loop-group-init
loop-group-init g c = λ more.
    let all : c.args.manner.groups ≡ c.args.manner.groups - 0 = omega arith in
    rw (← all) (goes_none (write_each c.args.now 0 c.args.manner.groups more) c.args.relay.now _)

pub loop-group-preserved : goal.loop-group-preserved
loop-group-preserved g c = λ more.
    goes_next _ _ _ _ _ _ _ _ _ _
    (write_next c.args.now c.loop-group.group c.args.manner.groups more (omega arith))
    (c.loop-group.invariant more) (c.in_ok-perform.ensures _)

pub returns : goal.returns
returns g c = λ more.
    goes_to _ _ _ _ _ _ _
    (write_last c.args.now c.loop-group.group c.args.manner.groups more (omega arith))
    (c.loop-group.invariant more)

pub returns-in_err-perform : goal.returns-in_err-perform
returns-in_err-perform g c = λ more.
    let later = write_each c.args.now (c.loop-group.group + 1)
    (c.args.manner.groups - (c.loop-group.group + 1)) more in
    fails_next _ _ c.from_residual.result _ _ _ later more _ _ _ _ _ _ c.from_residual.ensures.0
    c.from_residual.ensures.1
    (write_next c.args.now c.loop-group.group c.args.manner.groups more (omega arith))
    (writes_cut c.args.now (c.loop-group.group + 1)
    (c.args.manner.groups - (c.loop-group.group + 1)) more)
    (c.loop-group.invariant more) (c.in_err-perform.ensures later)
