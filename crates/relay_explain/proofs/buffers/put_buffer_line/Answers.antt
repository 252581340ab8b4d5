use Rattle.relay_explain.specs.Buffers.{buffer_told}
use Rattle.relay_explain.specs.Lines.{told_line}
use Rattle.relay_explain.proofs.Puts.{two}
use Rattle.relay_explain.proofs.buffers.put_buffer_line.Goals as goal

pub returns : goal.returns
unfolding buffer_told told_line
returns c =
    rw (← c.as_slice-name.ensures, ← c.as_slice-file.ensures)
    (two (two c.begin_line-text.ensures (two c.put-text.ensures c.put_sizes.ensures)) c.add.ensures)
