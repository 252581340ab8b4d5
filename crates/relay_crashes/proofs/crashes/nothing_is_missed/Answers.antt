use Rattle.relay_crashes.proofs.RingsAgain.{none_missed}
use Rattle.relay_crashes.proofs.crashes.nothing_is_missed.Goals as goal

pub returns : goal.returns
returns c = none_missed
