use Rattle.std.proofs.Common.{◌∙◌, subst, sym}
use Rattle.crossbeam_queue.specs.Passes.{view}
use Rattle.job_queue.specs.Delivery.{HasHanded, IsOpen}
use Rattle.job_queue.specs.declared.parcel.Parcel.TheVariants as parcels
use Rattle.live_jobs.proofs.channel.JobChannel.close_end.Goals as goal

pub mark_closed_last-requires-clause-pass : goal.mark_closed_last-requires-clause-pass
mark_closed_last-requires-clause-pass g c = c.loop.invariant.0

pub mark_closed_last-requires-clause-open : goal.mark_closed_last-requires-clause-open
mark_closed_last-requires-clause-open g c =
    subst (IsOpen c.args.end) (sym c.loop.invariant.1) c.requires.open

pub loop-preserved : goal.loop-preserved
loop-preserved g c = (
  c.mark_closed_last.ensures.pass,
  c.in-Err.ensures.full ∙ c.loop.invariant.1,
)

pub returns-in-Ok : goal.returns-in-Ok
returns-in-Ok g c = record {
  pass = c.mark_closed_last.ensures.pass;
  closed = c.in-Ok.ensures.closed;
  marked = subst
      (λ before. HasHanded before (parcels.Mark c.args.end) (view c.mark_closed_last.new.pass))
      c.loop.invariant.1 c.in-Ok.ensures.marked;
}
