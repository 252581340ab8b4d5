use Rattle.relay_log.proofs.Cuts.{short_front}
use Rattle.relay_log.proofs.laws.cut_front_is_none.Goals as goal

pub returns : goal.returns
returns c = short_front
