use Rattle.relay_crashes.proofs.SavedAgain.{saved_is_found}
use Rattle.relay_crashes.proofs.crashes.saved_is_found.Goals as goal

pub returns : goal.returns
returns c = saved_is_found
