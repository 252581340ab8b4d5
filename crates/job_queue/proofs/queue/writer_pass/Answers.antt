use Rattle.job_queue.proofs.Splits.{cuts_taker}
use Rattle.job_queue.proofs.queue.writer_pass.Goals as goal

pub another-requires-clause-rule : goal.another-requires-clause-rule
another-requires-clause-rule c = cuts_taker _ _ c.requires.takes
