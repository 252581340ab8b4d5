use Rattle.relay_crashes.proofs.WellAgain.{crashed_well}
use Rattle.relay_crashes.proofs.crashes.crashed_is_well.Goals as goal

pub returns : goal.returns
returns c = λ w v saved x y sound crash. crashed_well w v saved x y crash
