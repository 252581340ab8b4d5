use Rattle.relay_crashes.proofs.KilledAgain.{cut}
use Rattle.relay_crashes.proofs.rows.power_cut.Goals as goal

pub returns-clause-crash : goal.returns-clause-crash
returns-clause-crash c = cut
