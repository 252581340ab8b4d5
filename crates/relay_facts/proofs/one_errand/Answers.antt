use Rattle.std.proofs.Common.{subst}
use Rattle.relay_model.specs.Awaited.{Awaits}
use Rattle.relay_facts.proofs.Errands.{session_errand}
use Rattle.relay_facts.proofs.one_errand.Goals as goal

pub returns-clause-one : goal.returns-clause-one
returns-clause-one c = λ w x s well. session_errand x well.awaited s

pub returns-clause-waits : goal.returns-clause-waits
returns-clause-waits c =
    λ w x s session transfer id well there phase.
    subst (Awaits x s) phase (well.awaited.there s session there)
