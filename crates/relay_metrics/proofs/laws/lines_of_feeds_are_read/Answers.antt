use Rattle.relay_metrics.proofs.LinesRead.{feed_read}
use Rattle.relay_metrics.proofs.laws.lines_of_feeds_are_read.Goals as goal

pub returns : goal.returns
returns c = feed_read
