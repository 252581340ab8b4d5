use Rattle.relay_explain.specs.Entries.{entry_told}
use Rattle.relay_explain.specs.Lines.{told_line}
use Rattle.relay_explain.proofs.Puts.{two}
use Rattle.relay_explain.proofs.entries.put_entry_line.Goals as goal

pub returns : goal.returns
unfolding entry_told told_line
returns c =
    let taken = rw (← c.row.view_is) at c.put_taken.ensures in
    rw (← c.row.view_is, ← c.group_name.ensures)
    (two (two c.begin_line.ensures (two (two (two (two (two (two (two c.add.ensures
    c.add_number.ensures) c.add-text.ensures) taken) c.add-2.ensures) c.add_number-2.ensures)
    c.add-3.ensures) c.add-4.ensures)) c.add-5.ensures)
