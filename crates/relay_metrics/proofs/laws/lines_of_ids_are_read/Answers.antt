use Rattle.relay_metrics.proofs.LinesRead.{ids_read}
use Rattle.relay_metrics.proofs.laws.lines_of_ids_are_read.Goals as goal

pub returns : goal.returns
returns c = ids_read
