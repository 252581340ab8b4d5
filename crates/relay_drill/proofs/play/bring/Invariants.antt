use Rattle.std.proofs.Common.{◌<◌, length}
use Rattle.relay_drill.specs.Progress.{Goes}
use Rattle.relay_drill.specs.Todo.{Todo, bring_each, pieces_in}
use Rattle.relay_drill.proofs.play.bring.Given as goal

abbrev pub invariant-loop-rest : goal.invariant-loop-rest
invariant-loop-rest g l = record {
  some : 0 < length l.rest → 0 < l.size;
  goes : (more : Todo) → Goes l.manner.reasons
      (bring_each l.session (pieces_in (length l.fn.octets) l.size l.fn.octets) more)
      (bring_each l.session (pieces_in (length l.rest) l.size l.rest) more)
      l.fn.relay l.relay (g.W.Write.contents l.fn.writer) (g.W.Write.contents l.writer);
}

abbrev pub decreases-loop-rest : goal.decreases-loop-rest
decreases-loop-rest g l = length l.rest
