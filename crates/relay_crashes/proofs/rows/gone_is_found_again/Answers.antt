use Rattle.relay_crashes.proofs.KilledAgain.{first_gone, killed_unwritten}
use Rattle.relay_crashes.proofs.rows.gone_is_found_again.Goals as goal

pub returns-clause-gone : goal.returns-clause-gone
returns-clause-gone c = λ failures one two. first_gone one two

pub returns-clause-crash : goal.returns-clause-crash
returns-clause-crash c = killed_unwritten
