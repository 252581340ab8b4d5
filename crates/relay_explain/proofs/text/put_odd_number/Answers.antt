use Rattle.relay_explain.specs.Lines.{odd_line, told_line}
use Rattle.relay_explain.proofs.Puts.{two}
use Rattle.relay_explain.proofs.text.put_odd_number.Goals as goal

pub returns : goal.returns
unfolding odd_line told_line
returns c =
    let told = two (two c.add-2.ensures c.add_number.ensures) c.add-3.ensures in
    two (two c.begin_line.ensures (two c.add.ensures told)) c.add-4.ensures
