use Rattle.std.proofs.Common.{◌≡◌, map, take}
use Rattle.std.specs.Prelude.{filter_map}
use Rattle.std.specs.List.{enumerate_from}
use Rattle.relay_explain.specs.Entries.{entry_number}
use Rattle.relay_explain.proofs.rows.entry_lines.Given as goal

-- the numbers of those so far are there
abbrev pub invariant-loop-at : goal.invariant-loop-at
invariant-loop-at l =
    l.numbers.items
    ≡ filter_map entry_number
    (take l.at (enumerate_from 0 (map (λ line. line.now) l.fn.lines)))
