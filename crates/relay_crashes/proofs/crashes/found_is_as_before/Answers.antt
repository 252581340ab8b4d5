use Rattle.relay_crashes.proofs.FoundAgain.{found_same}
use Rattle.relay_crashes.proofs.crashes.found_is_as_before.Goals as goal

pub returns : goal.returns
returns c = found_same
