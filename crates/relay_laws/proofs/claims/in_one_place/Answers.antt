use Rattle.relay_laws.proofs.Runs.{always_well}
use Rattle.relay_laws.proofs.claims.in_one_place.Goals as goal

-- it is a part of what holds of each well world
pub returns : goal.returns
returns c = λ w sound failures events outputs x run.
    (always_well w sound failures events outputs x run).placed.one
