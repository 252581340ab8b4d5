use Rattle.std.specs.Vec.Iter.{into_iter_items}
use Rattle.live_jobs.specs.Rows.{From}
use Rattle.live_jobs.specs.Seats.{IsSeatOf}
use Rattle.live_jobs.proofs.serve.leave_running.Given as goal

abbrev pub invariant-loop-plan : goal.invariant-loop-plan
invariant-loop-plan g l =
    From (λ n p. IsSeatOf l.channels p.seat) 0 (into_iter_items l.plan-iterator)
