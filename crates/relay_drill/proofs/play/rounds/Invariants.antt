use Rattle.std.proofs.Common.{◌-◌}
use Rattle.relay_drill.specs.Progress.{Goes}
use Rattle.relay_drill.specs.Todo.{Todo, round_each}
use Rattle.relay_drill.proofs.play.rounds.Given as goal

abbrev pub invariant-loop-passed : goal.invariant-loop-passed
invariant-loop-passed g l =
    (more : Todo) → Goes l.manner.reasons
    (round_each l.manner.groups l.now l.sessions l.count more)
    (round_each l.manner.groups l.now l.sessions (l.count - l.passed) more) l.fn.relay l.relay
    (g.W.Write.contents l.fn.writer) (g.W.Write.contents l.writer)
