use Rattle.relay_explain.specs.Buffers.{mode_text}
use Rattle.relay_explain.proofs.Puts.{two}
use Rattle.relay_explain.proofs.groups.put_mode.Goals as goal

pub returns-in-Interleave : goal.returns-in-Interleave
unfolding mode_text
returns-in-Interleave c =
    rw (c.in-Interleave.is, ← c.as_slice.ensures)
    (two (two c.add.ensures c.add-text.ensures) c.add-in-Interleave.ensures)

pub returns-in-Sequential : goal.returns-in-Sequential
unfolding mode_text
returns-in-Sequential c =
    rw (c.in-Sequential.is, ← c.as_slice.ensures)
    (two (two c.add.ensures c.add-text.ensures) c.add-in-Sequential.ensures)
