use Rattle.relay_crashes.proofs.SavedAgain.{found_in_lives}
use Rattle.relay_crashes.proofs.crashes.found_in_all_lives.Goals as goal

pub returns : goal.returns
returns c = found_in_lives
