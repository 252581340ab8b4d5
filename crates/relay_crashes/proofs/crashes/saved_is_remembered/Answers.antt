use Rattle.relay_crashes.proofs.FoundAgain.{saved_remembered}
use Rattle.relay_crashes.proofs.crashes.saved_is_remembered.Goals as goal

pub returns : goal.returns
returns c = saved_remembered
