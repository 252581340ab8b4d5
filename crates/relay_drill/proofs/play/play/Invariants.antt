use Rattle.std.proofs.Common.{drop, map}
use Rattle.relay_drill.specs.Fault.{line_view}
use Rattle.relay_drill.specs.Progress.{Goes, stand_view}
use Rattle.relay_drill.specs.Todo.{first_stand, lines_ask, lines_left}
use Rattle.relay_drill.proofs.play.play.Given as goal

abbrev pub invariant-loop-line : goal.invariant-loop-line
invariant-loop-line g l =
    Goes l.manner.reasons (lines_ask l.manner.groups (map line_view l.lines) first_stand)
    (lines_left l.manner.groups l.stand.armed (map line_view (drop l.line-index l.lines))
    (stand_view l.stand))
    l.fn.life.relay l.living.relay (g.W.Write.contents l.fn.writer) (g.W.Write.contents l.writer)
