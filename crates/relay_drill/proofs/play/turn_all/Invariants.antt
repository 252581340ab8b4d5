use Rattle.std.proofs.Common.{drop}
use Rattle.relay_drill.specs.Progress.{Goes}
use Rattle.relay_drill.specs.Todo.{Todo, turn_each}
use Rattle.relay_drill.proofs.play.turn_all.Given as goal

abbrev pub invariant-loop-session : goal.invariant-loop-session
invariant-loop-session g l =
    (more : Todo) → Goes l.manner.reasons (turn_each l.now l.sessions more)
    (turn_each l.now (drop l.session-index l.sessions) more) l.fn.relay l.relay
    (g.W.Write.contents l.fn.writer) (g.W.Write.contents l.writer)
