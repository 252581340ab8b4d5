use Rattle.relay_crashes.proofs.KilledAgain.{killed_writing}
use Rattle.relay_crashes.proofs.rows.killed_while_writing.Goals as goal

pub returns-clause-crash : goal.returns-clause-crash
returns-clause-crash c = killed_writing
