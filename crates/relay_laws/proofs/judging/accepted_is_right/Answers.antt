use Rattle.relay_laws.proofs.Reasons.{offered, in_time, has_class, is_updated}
use Rattle.relay_laws.proofs.judging.accepted_is_right.Goals as goal

pub returns-clause-offered : goal.returns-clause-offered
returns-clause-offered c = offered

pub returns-clause-in_time : goal.returns-clause-in_time
returns-clause-in_time c = in_time

pub returns-clause-classed : goal.returns-clause-classed
returns-clause-classed c = has_class

pub returns-clause-updated : goal.returns-clause-updated
returns-clause-updated c = is_updated
