use Rattle.relay_log.proofs.Foldings.{one_folded}
use Rattle.relay_log.proofs.laws.one_is_folded.Goals as goal

pub returns : goal.returns
returns c = one_folded
