use Rattle.std.specs.Prelude.{Some}
use Rattle.relay_startup.proofs.Faults.{refusal_serves}
use Rattle.relay_startup.proofs.unstopped.refused_head.Goals as goal

-- it is told as a start tells it
pub returns-clause-fault : goal.returns-clause-fault
returns-clause-fault c =
    refusal_serves c.args.config.now (Some c.number_of-number.result) c.args.fault.error
    c.refusal.result c.refusal.ensures
