use Rattle.relay_log.proofs.FoldsIn.{folded_holds}
use Rattle.relay_log.proofs.laws.folded_holds.Goals as goal

pub returns : goal.returns
returns c = folded_holds
