use Rattle.std.proofs.Common.{◌≡◌, map, take}
use Rattle.std.specs.List.{enumerate_from}
use Rattle.relay_explain.specs.Entries.{said_entry}
use Rattle.relay_explain.proofs.rows.rows_of.Given as goal

-- the entries so far are there
abbrev pub invariant-loop-place : goal.invariant-loop-place
invariant-loop-place l =
    l.rows.items
    ≡ map (said_entry (map (λ line. line.now) l.fn.lines))
    (take l.place (enumerate_from 0 l.fn.storage_entries))
