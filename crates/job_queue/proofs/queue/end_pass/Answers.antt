use Rattle.job_queue.proofs.Splits.{cuts_first}
use Rattle.job_queue.proofs.queue.end_pass.Goals as goal

pub another-requires-clause-rule : goal.another-requires-clause-rule
another-requires-clause-rule c = cuts_first _ _ c.requires.left c.requires.none
