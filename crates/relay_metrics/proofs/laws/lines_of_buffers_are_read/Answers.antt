use Rattle.relay_metrics.proofs.LinesRead.{buffer_read}
use Rattle.relay_metrics.proofs.laws.lines_of_buffers_are_read.Goals as goal

pub returns : goal.returns
returns c = buffer_read
