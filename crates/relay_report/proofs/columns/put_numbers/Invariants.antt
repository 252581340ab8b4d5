use Rattle.std.proofs.Common.{◌≡◌, ◌++◌, flat_map, take}
use Rattle.std.specs.Prelude.{decimal}
use Rattle.relay_report.specs.Text.{right_in}
use Rattle.relay_report.proofs.columns.put_numbers.Given as goal

-- the columns so far are put
abbrev pub invariant-loop-column : goal.invariant-loop-column
invariant-loop-column l =
    l.text.items
    ≡ l.fn.text.items
    ++ flat_map (λ one. right_in one.1 (decimal one.0)) (take l.column-index l.columns)
