use Rattle.relay_laws.proofs.WriterSteps.{restart_leaves}
use Rattle.relay_laws.proofs.writes.others_leave_writers.Goals as goal

pub returns-clause-refused : goal.returns-clause-refused
returns-clause-refused c = restart_leaves
