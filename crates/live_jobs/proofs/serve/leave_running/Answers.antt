use Rattle.std.proofs.Common.{subst, sym}
use Rattle.std.specs.Vec.Iter.{into_iter_items}
use Rattle.live_jobs.specs.Rows.{From}
use Rattle.live_jobs.specs.Seats.{IsSeatOf}
use Rattle.live_jobs.proofs.Rows.{from_head, from_any}
use Rattle.live_jobs.proofs.serve.leave_running.Goals as goal

pub loop-plan-init : goal.loop-plan-init
loop-plan-init g c =
    subst (λ left. From (λ n p. IsSeatOf c.args.channels.now p.seat) 0 (into_iter_items left))
    (sym c.into_iter-plan-iterator.ensures.into_iter_gives) c.requires.fit

pub leave_writers-requires-clause-seat : goal.leave_writers-requires-clause-seat
leave_writers-requires-clause-seat g c =
    from_head (λ n p. IsSeatOf c.args.channels.now p.seat) 0 _ _ _ c.loop-plan.invariant
    c.in-Some.ensures.steps.0

pub loop-plan-preserved : goal.loop-plan-preserved
loop-plan-preserved g c =
    from_any (λ p. IsSeatOf c.args.channels.now p.seat) _ _ _ c.loop-plan.invariant
    c.in-Some.ensures.steps.0
