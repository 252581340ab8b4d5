use Rattle.std.proofs.Common.{subst}
use Rattle.relay_model.specs.Invariants.{IsAt}
use Rattle.relay_laws.proofs.Runs.{always_well}
use Rattle.relay_laws.proofs.writes.never_too_many.Goals as goal

-- it is a part of what the phase of a writer says
pub returns : goal.returns
returns c = λ w sound failures events outputs x run g job token written has.
    (subst (IsAt w x.state g) has
    ((always_well w sound failures events outputs x run).placed.writer g)).2
