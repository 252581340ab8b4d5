use Rattle.relay_explain.proofs.Puts.{two}
use Rattle.relay_explain.proofs.entries.put_entry.Goals as goal

pub returns : goal.returns
returns c =
    let line = rw (← c.row.view_is) at c.put_entry_line-text.ensures in
    let first = rw (← c.row.view_is) at c.shadow_of.ensures in
    rw (← c.row.view_is, ← c.largest_stored.ensures, ← c.takes_no_size.ensures, ← first)
    (two (two (two line c.put_pattern_odds-text.ensures) c.put_odd-text.ensures)
    c.put_shadow_odd.ensures)
