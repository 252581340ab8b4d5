use Rattle.crossbeam_queue.specs.Passes.{view, IsPassOf}
use Rattle.job_queue.specs.Delivery.{IsOpen}
use Rattle.crate_rows.proofs.queues.filled.Given as goal

abbrev pub invariant-loop-number : goal.invariant-loop-number
invariant-loop-number g l = IsPassOf l.queue l.pass × IsOpen 0 (view l.pass)
