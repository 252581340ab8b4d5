use Rattle.relay_crashes.proofs.FoundAgain.{found_remembered}
use Rattle.relay_crashes.proofs.crashes.found_is_remembered.Goals as goal

pub returns : goal.returns
returns c = found_remembered
