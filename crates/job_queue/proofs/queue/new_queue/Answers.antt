use Rattle.job_queue.proofs.Steps.{begins}
use Rattle.job_queue.proofs.queue.new_queue.Goals as goal

pub ruled-requires-clause-rule : goal.ruled-requires-clause-rule
ruled-requires-clause-rule c = begins
