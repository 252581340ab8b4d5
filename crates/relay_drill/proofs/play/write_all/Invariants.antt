use Rattle.std.proofs.Common.{◌-◌}
use Rattle.relay_drill.specs.Progress.{Goes}
use Rattle.relay_drill.specs.Todo.{Todo, write_each}
use Rattle.relay_drill.proofs.play.write_all.Given as goal

abbrev pub invariant-loop-group : goal.invariant-loop-group
invariant-loop-group g l =
    (more : Todo) → Goes l.manner.reasons (write_each l.now 0 l.manner.groups more)
    (write_each l.now l.group (l.manner.groups - l.group) more) l.fn.relay l.relay
    (g.W.Write.contents l.fn.writer) (g.W.Write.contents l.writer)
