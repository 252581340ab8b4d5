use Rattle.relay_log.proofs.Beginnings.{one_longest}
use Rattle.relay_log.proofs.laws.one_is_longest.Goals as goal

pub returns : goal.returns
returns c = one_longest
