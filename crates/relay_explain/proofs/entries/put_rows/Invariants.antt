use Rattle.std.proofs.Common.{flat_map, take}
use Rattle.relay_explain.specs.Entries.{entry_text}
use Rattle.relay_explain.specs.Text.{Adds}
use Rattle.relay_explain.proofs.entries.put_rows.Given as goal

-- what is told of the entries so far is there
abbrev pub invariant-loop-row : goal.invariant-loop-row
invariant-loop-row l =
    Adds l.fn.text l.text
    (flat_map (entry_text l.fn.config l.fn.rows) (take l.row-index l.fn.rows))
