use Rattle.std.proofs.Common.{◌≡◌, ◌++◌, flat_map, map, take}
use Rattle.relay_metrics.specs.Lines.{line_view}
use Rattle.relay_page.specs.Figures.{figure_text, figure_view}
use Rattle.relay_page.proofs.figures.put_figures.Given as goal

-- the numbers so far are there
abbrev pub invariant-loop-figure : goal.invariant-loop-figure
invariant-loop-figure l =
    l.text.items ≡ l.fn.text.items
    ++ flat_map (figure_text (line_view l.line)) (map figure_view (take l.figure-index l.figures))
