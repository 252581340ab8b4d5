use Rattle.relay_crashes.proofs.KilledAgain.{killed_twice}
use Rattle.relay_crashes.proofs.rows.two_of_one_id.Goals as goal

pub returns-clause-crash : goal.returns-clause-crash
returns-clause-crash c = killed_twice
