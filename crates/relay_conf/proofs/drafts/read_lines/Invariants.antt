use Rattle.std.proofs.Common.{◌≡◌, ◌+◌, length, []}
use Rattle.relay_conf.specs.Lines.{lines_of, lines_after}
use Rattle.relay_conf.proofs.LinesRead.{HasPassed}
use Rattle.relay_conf.proofs.drafts.read_lines.Given as goal

-- the lines passed have no fault, and the draft is theirs
abbrev pub invariant-loop-unread : goal.invariant-loop-unread
invariant-loop-unread g l =
    let line = g.D.LineByLine in
    record {
      counted : l.number + length (lines_after l.unread) ≡ length (lines_of l.text);
      passed : line.Draws l.over [] l.fn.empty
          → HasPassed line.Says (line.wrong l.over) (line.Draws l.over) (lines_of l.text) l.number
          (lines_after l.unread)
          l.draft;
    }

abbrev pub decreases-loop-unread : goal.decreases-loop-unread
decreases-loop-unread g l = length (lines_after l.unread)
