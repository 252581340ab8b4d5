use Rattle.relay_explain.specs.Lines.{odd_line, told_line}
use Rattle.relay_explain.proofs.Puts.{two}
use Rattle.relay_explain.proofs.found.put_odd_device.Goals as goal

pub returns : goal.returns
unfolding odd_line told_line
returns c =
    let device = two (two c.add-4.ensures c.add_number.ensures) c.add-5.ensures in
    let what = two (two c.add-2.ensures c.add-3.ensures) device in
    two (two c.begin_line.ensures (two c.add.ensures what)) c.add-6.ensures
