use Rattle.relay_laws.proofs.Counted.{idle_after, busy_before}
use Rattle.relay_laws.proofs.writes.writes_of_a_job.Goals as goal

pub returns-clause-all : goal.returns-clause-all
returns-clause-all c = idle_after

pub returns-clause-fewer : goal.returns-clause-fewer
returns-clause-fewer c = busy_before
