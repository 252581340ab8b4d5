use Rattle.relay_log.proofs.LastFolding.{last_is_folded}
use Rattle.relay_log.proofs.laws.last_folding_example.Goals as goal

pub returns : goal.returns
returns c = last_is_folded
