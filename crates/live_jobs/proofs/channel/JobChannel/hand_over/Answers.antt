use Rattle.std.proofs.Common.{◌∙◌, subst, sym}
use Rattle.crossbeam_queue.specs.Passes.{view}
use Rattle.job_queue.specs.Delivery.{HasHanded, IsOpen}
use Rattle.job_queue.specs.declared.parcel.Handed.{Handed}
use Rattle.job_queue.specs.declared.parcel.Parcel.TheVariants as parcels
use Rattle.live_jobs.proofs.channel.JobChannel.hand_over.Goals as goal

pub try_often-requires-clause-pass : goal.try_often-requires-clause-pass
try_often-requires-clause-pass g c = c.loop.invariant.0

pub try_often-requires-clause-open : goal.try_often-requires-clause-open
try_often-requires-clause-open g c =
    subst (IsOpen c.loop.job.end) (sym c.loop.invariant.1)
    (subst (λ (j : Handed). IsOpen j.end (view c.args.pass.now)) (sym c.loop.invariant.2)
    c.requires.open)

pub hand_over_last-requires-clause-pass : goal.hand_over_last-requires-clause-pass
hand_over_last-requires-clause-pass g c = c.try_often.ensures.pass

pub hand_over_last-requires-clause-open : goal.hand_over_last-requires-clause-open
hand_over_last-requires-clause-open g c =
    subst (λ (j : Handed). IsOpen j.end (view c.try_often.new.pass))
    (sym c.in-Err.ensures.full.0) c.try_often.ensures.open

pub loop-preserved : goal.loop-preserved
loop-preserved g c =
    let once = c.in-Err.ensures.full in
    let again = c.in-Err-hand_over_last.ensures.full in (
      c.hand_over_last.ensures.pass,
      again.1 ∙ once.1 ∙ c.loop.invariant.1,
      again.0 ∙ once.0 ∙ c.loop.invariant.2,
    )

pub returns-in-Ok : goal.returns-in-Ok
returns-in-Ok g c =
    let inv = c.loop.invariant in
    let told = c.try_often.ensures in
    let after = view c.try_often.new.pass in
    record {
      pass = told.pass;
      «open» = subst (λ (j : Handed). IsOpen j.end after) inv.2 told.open;
      taken = subst (λ before. HasHanded before (parcels.Job c.args.job) after) inv.1
          (subst (λ j. HasHanded (view c.loop.pass) (parcels.Job j) after) inv.2
          c.in-Ok.ensures.taken);
    }

pub returns-in-Ok-hand_over_last : goal.returns-in-Ok-hand_over_last
returns-in-Ok-hand_over_last g c =
    let inv = c.loop.invariant in
    let once = c.in-Err.ensures.full in
    let told = c.hand_over_last.ensures in
    let after = view c.hand_over_last.new.pass in
    record {
      pass = told.pass;
      «open» = subst (λ (j : Handed). IsOpen j.end after) (once.0 ∙ inv.2) told.open;
      taken = subst (λ before. HasHanded before (parcels.Job c.args.job) after) (once.1 ∙ inv.1)
          (subst (λ j. HasHanded (view c.try_often.new.pass) (parcels.Job j) after)
          (once.0 ∙ inv.2) c.in-Ok-hand_over_last.ensures.taken);
    }
