use Rattle.relay_conf.proofs.SkippedCycbuff.{cycbuff_without}
use Rattle.relay_conf.proofs.laws.comments_change_nothing_in_cycbuff_conf.Goals as goal

pub returns : goal.returns
returns c = cycbuff_without
