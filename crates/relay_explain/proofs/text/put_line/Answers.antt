use Rattle.relay_explain.specs.Lines.{told_line}
use Rattle.relay_explain.proofs.Puts.{two}
use Rattle.relay_explain.proofs.text.put_line.Goals as goal

pub returns : goal.returns
unfolding told_line
returns c = two (two c.begin_line-text.ensures c.put.ensures) c.add.ensures
