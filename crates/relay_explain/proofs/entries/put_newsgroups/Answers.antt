use Rattle.relay_explain.proofs.Puts.{two}
use Rattle.relay_explain.proofs.entries.put_newsgroups.Goals as goal

pub returns-then-row : goal.returns-then-row
returns-then-row c =
    rw (← c.row.view_is, c.if-row.true)
    (two (two c.add.ensures c.add-text.ensures) c.add-then-row.ensures)

pub returns : goal.returns
returns c =
    rw (← c.row.view_is, c.if-row.false)
    (two (two c.add.ensures c.add-text.ensures) c.add-2.ensures)
