use Rattle.relay_recovery.proofs.Repairs.{unrepaired_serves}
use Rattle.relay_recovery.proofs.recovering.repair_beside.Goals as goal

-- why it isn't repaired is told
pub returns-in-Some-Err-clause-fault : goal.returns-in-Some-Err-clause-fault
returns-in-Some-Err-clause-fault g c =
    unrepaired_serves c.args.config.now c.in-Some-Err.refused c.unstarted.result
    c.unstarted.ensures
