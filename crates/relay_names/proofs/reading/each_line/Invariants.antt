use Rattle.std.proofs.Common.{◌≡◌, Some, drop, map}
use Rattle.relay_names.specs.Text.{lines_said}
use Rattle.relay_names.specs.Views.{line_view}
use Rattle.relay_names.proofs.SaidAgain.{joined}
use Rattle.relay_names.proofs.reading.each_line.Given as goal

-- what the lines so far say stands before what is left
abbrev pub invariant-loop-line : goal.invariant-loop-line
invariant-loop-line l =
    joined (Some (map line_view l.said.items))
    (lines_said (map (λ line. line.now) (drop l.line-index l.lines)))
    ≡ lines_said (map (λ line. line.now) l.lines)
