use Rattle.relay_explain.proofs.Puts.{two}
use Rattle.relay_explain.proofs.choice.put_small.Goals as goal

pub returns : goal.returns
returns c =
    rw (← c.as_slice.ensures, ← c.as_slice-2.ensures, ← c.room_of.ensures)
    (two (two (two (two (two (two (two c.add.ensures c.add-2.ensures) c.add-3.ensures)
    c.add-4.ensures) c.add-5.ensures) c.add_number.ensures) c.add-6.ensures) c.add-7.ensures)
