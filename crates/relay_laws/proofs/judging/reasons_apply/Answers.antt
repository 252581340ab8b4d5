use Rattle.relay_laws.proofs.Reasons.{none_applies, said_applies}
use Rattle.relay_laws.proofs.judging.reasons_apply.Goals as goal

pub returns-clause-said : goal.returns-clause-said
returns-clause-said c = said_applies

pub returns-clause-accepted : goal.returns-clause-accepted
returns-clause-accepted c = none_applies
