use Rattle.std.proofs.Common.{◌≡◌, ◌++◌, flat_map, map, take}
use Rattle.relay_metrics.specs.Lines.{line_view}
use Rattle.relay_page.specs.Rows.{row_of}
use Rattle.relay_page.proofs.rows.put_rows.Given as goal

-- what there is of the lines so far
abbrev pub invariant-loop-line : goal.invariant-loop-line
invariant-loop-line l =
    l.text.items ≡ l.fn.text.items
    ++ flat_map (row_of l.part l.most) (map line_view (take l.line-index l.lines))
