use Rattle.relay_conf.proofs.SkippedRelay.{relay_without}
use Rattle.relay_conf.proofs.laws.comments_change_nothing_in_relay_conf.Goals as goal

pub returns : goal.returns
returns c = relay_without
