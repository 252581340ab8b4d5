use Rattle.std.proofs.Common.{◌∙◌, ap, map}
use Rattle.std.specs.List.{enumerate_from}
use Rattle.relay_explain.specs.Entries.{entries_text, said_entry}
use Rattle.relay_explain.proofs.Puts.{two}
use Rattle.relay_explain.proofs.entries.put_entries.Goals as goal

pub returns-in-Ok : goal.returns-in-Ok
unfolding entries_text
returns-in-Ok c =
    let rows = c.in-Ok.ensures
    ∙ ap (λ all. map (said_entry (map (λ line. line.now) c.args.lines.now)) (enumerate_from 0 all))
    c.deref.ensures.value in
    two (rw (c.deref-in-Ok.ensures.value, rows) at c.put_rows-text.ensures)
    (rw (c.deref-in-Ok-2.ensures.value, rows) at c.put_no_entries.ensures)

pub returns-in-Err : goal.returns-in-Err
returns-in-Err c = c.fail.ensures _
