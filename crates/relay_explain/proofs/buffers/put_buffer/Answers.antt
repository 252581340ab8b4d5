use Rattle.relay_explain.proofs.Places.{got}
use Rattle.relay_explain.proofs.Puts.{two}
use Rattle.relay_explain.proofs.buffers.put_buffer.Goals as goal

pub returns : goal.returns
returns c =
    let line = rw c.as_slice.ensures at c.named_line-line.ensures in
    let lying = rw c.as_slice-2.ensures at c.put_found-text.ensures in
    let found = got c.args.found.now c.args.number c.get.result c.get.ensures.lookup.0
    c.get.ensures.lookup.1 in
    rw (← line, ← found)
    (two (two c.put_buffer_line-text.ensures lying) c.put_odds.ensures)
