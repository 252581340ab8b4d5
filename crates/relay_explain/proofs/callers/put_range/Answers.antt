use Rattle.relay_explain.specs.Callers.{said_range_text}
use Rattle.relay_explain.proofs.Puts.{two}
use Rattle.relay_explain.proofs.callers.put_range.Goals as goal

pub returns : goal.returns
unfolding said_range_text
returns c =
    let every = rw (c.as_slice-every.ensures, c.has_all.ensures) at c.put_odd-text.ensures in
    let ipv4 = rw (c.as_slice-every-2.ensures, c.has_all_of_ipv4.ensures)
    at c.put_odd-text-2.ensures in
    rw (← c.first_over.ensures)
    (two (two (two c.put_range_line-text.ensures every) ipv4) c.put_idle.ensures)
