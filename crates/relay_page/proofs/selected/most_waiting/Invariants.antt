use Rattle.std.proofs.Common.{◌≡◌, drop, map, max}
use Rattle.relay_metrics.specs.Lines.{line_view}
use Rattle.relay_page.specs.Selected.{most_waiting}
use Rattle.relay_page.proofs.selected.most_waiting.Given as goal

-- with those that are still to come it is the most of all
abbrev pub invariant-loop-line : goal.invariant-loop-line
invariant-loop-line l =
    max l.most (most_waiting (map line_view (drop l.line-index l.lines)))
    ≡ most_waiting (map line_view l.lines)
