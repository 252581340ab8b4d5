use Rattle.relay_explain.specs.Buffers.{sizes_text}
use Rattle.relay_explain.proofs.Puts.{two}
use Rattle.relay_explain.proofs.buffers.put_sizes.Goals as goal

pub returns : goal.returns
unfolding sizes_text
returns c =
    rw (← c.room_of.ensures, ← c.file_octets.ensures)
    (two (two (two (two (two c.add_number.ensures c.add.ensures) c.add_number-2.ensures)
    c.add-2.ensures) c.add_number-3.ensures) c.add-3.ensures)
