use Rattle.std.proofs.Common.{subst, sym}
use Rattle.crossbeam_queue.specs.Passes.{view}
use Rattle.job_queue.specs.Delivery.{HasHanded, IsOpen}
use Rattle.job_queue.specs.declared.parcel.Handed.{Handed}
use Rattle.job_queue.specs.declared.parcel.Parcel.TheVariants as parcels
use Rattle.live_jobs.proofs.channel.JobChannel.try_often.Goals as goal

pub try_hand_over-requires-clause-open : goal.try_hand_over-requires-clause-open
try_hand_over-requires-clause-open g c =
    subst (IsOpen c.loop.job.end) (sym c.loop.invariant.1)
    (subst (λ (j : Handed). IsOpen j.end (view c.args.pass.now)) (sym c.loop.invariant.2)
    c.requires.open)

pub returns-in-Ok : goal.returns-in-Ok
returns-in-Ok g c =
    let inv = c.loop.invariant in
    let told = c.try_hand_over.ensures in
    let after = view c.try_hand_over.new.pass in
    record {
      pass = told.pass;
      «open» = subst (λ (j : Handed). IsOpen j.end after) inv.2 told.open;
      taken = subst (λ before. HasHanded before (parcels.Job c.args.job) after) inv.1
          (subst (λ j. HasHanded (view c.loop.pass) (parcels.Job j) after) inv.2
          c.in-Ok.ensures.taken);
      full = tt;
    }

pub returns : goal.returns
returns g c =
    let inv = c.loop.invariant in
    record {
      pass = inv.0;
      «open» = subst (IsOpen c.args.job.end) (sym inv.1) c.requires.open;
      taken = tt;
      full = (inv.2, inv.1);
    }
