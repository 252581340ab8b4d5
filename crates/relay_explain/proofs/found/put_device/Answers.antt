use Rattle.relay_explain.specs.Lines.{told_line}
use Rattle.relay_explain.proofs.Puts.{two}
use Rattle.relay_explain.proofs.found.put_device.Goals as goal

pub returns : goal.returns
unfolding told_line
returns c =
    let device = two (two c.add-3.ensures c.add_number.ensures) c.add-4.ensures in
    two (two c.begin_line.ensures (two (two c.add.ensures c.add-2.ensures) device)) c.add-5.ensures
