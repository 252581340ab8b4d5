use Rattle.std.proofs.Common.{◌≡◌, flat_map, map, take}
use Rattle.std.specs.List.{enumerate_from}
use Rattle.relay_explain.specs.Callers.{numbers_on}
use Rattle.relay_explain.proofs.callers.range_lines.Given as goal

-- the numbers of those so far are there
abbrev pub invariant-loop-at : goal.invariant-loop-at
invariant-loop-at l =
    l.numbers.items
    ≡ flat_map (numbers_on l.name) (take l.at (enumerate_from 0 (map (λ line. line.now) l.lines)))
