use Rattle.relay_conf.proofs.JoinedLines.{joined_by_lf}
use Rattle.relay_conf.proofs.laws.lines_joined_by_line_feeds.Goals as goal

pub returns : goal.returns
returns c = joined_by_lf
