use Rattle.std.proofs.Common.{ap}
use Rattle.relay_model.specs.Invariants.{may_carry}
use Rattle.relay_laws.proofs.Runs.{always_well}
use Rattle.relay_laws.proofs.claims.ended_have_no_job.Goals as goal

-- it is a part of what holds of each well world
pub returns : goal.returns
returns c = λ w sound failures events outputs x run s session there ended.
    (always_well w sound failures events outputs x run).placed.empty s session there
    (ap may_carry ended)
