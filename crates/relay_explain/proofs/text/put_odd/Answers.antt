use Rattle.relay_explain.specs.Lines.{odd_line}
use Rattle.relay_explain.proofs.Puts.{nothing}
use Rattle.relay_explain.proofs.text.put_odd.Goals as goal

pub returns-then-not-is_odd : goal.returns-then-not-is_odd
unfolding odd_line
returns-then-not-is_odd c = rw c.if-not-is_odd.true (nothing _)

pub returns : goal.returns
unfolding odd_line
returns c = rw c.if-not-is_odd.false c.put_line.ensures
