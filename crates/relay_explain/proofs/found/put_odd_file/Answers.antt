use Rattle.relay_explain.specs.Lines.{odd_line}
use Rattle.relay_explain.proofs.found.put_odd_file.Goals as goal

pub returns : goal.returns
unfolding odd_line
returns c = c.put_line.ensures
