use Rattle.std.proofs.Common.{Bool, List, [], ◌∷◌, ◌++◌, ap, ◌∙◌, refl, arith, length, true}
use Rattle.live_jobs.proofs.Passes.{length_set}
use Rattle.live_jobs.specs.declared.outcome.FinishedJob.{FinishedJob}
use Rattle.live_jobs.specs.Taken.{worth}
use Rattle.live_jobs.proofs.Taken.{takes_job, takes_mark, kept_more, kept_within, worth_one}
use Rattle.live_jobs.proofs.writer.take_step.Goals as goal

pub overflow_add-kept : goal.overflow_add-kept
overflow_add-kept g c =
    let within = kept_within g.O.Outcome.kept c.args.seat.now.finished.items in
    let was = c.args.seat.now.counted in
    let one = worth_one c.is_kept.result in
    let is = c.worth_of.ensures in
    let few = c.reserve_one.ensures.few in
    record { fits = omega arith }

pub invariant_of-seat-in-Job-clause-took : goal.invariant_of-seat-in-Job-clause-took
invariant_of-seat-in-Job-clause-took g c =
    let seat = c.args.seat.now in
    takes_job g.O.Outcome.fits seat.pass c.try_take.new.pass seat.finished.items _ _
    c.in-Some.parcel c.in-Job.handed _ seat.took c.try_take.ensures.writer
    c.in-Some.ensures.taken c.in-Job.is refl
    c.store-outcome.ensures.fits
    (c.push_reserved.ensures.items
    ∙ ap (λ (l : List (FinishedJob _)). l ++ record {
      end = c.in-Job.handed.end;
      number = c.in-Job.handed.number;
      id = c.in-Job.handed.job.id;
      outcome =
          c.store-outcome.result;
    } ∷ []) c.reserve_one.ensures.items)

pub invariant_of-seat-in-Job-clause-counted : goal.invariant_of-seat-in-Job-clause-counted
invariant_of-seat-in-Job-clause-counted g c =
    kept_more g.O.Outcome.kept c.args.seat.now.finished.items c.push_reserved.new.self.items _
    c.args.seat.now.kept c.worth_of.result
    (c.push_reserved.ensures.items
    ∙ ap (λ (l : List (FinishedJob _)). l ++ record {
      end = c.in-Job.handed.end;
      number = c.in-Job.handed.number;
      id = c.in-Job.handed.job.id;
      outcome =
          c.store-outcome.result;
    } ∷ []) c.reserve_one.ensures.items)
    c.args.seat.now.counted (c.worth_of.ensures ∙ ap worth c.is_kept.ensures)

pub invariant_of-seat-in-Mark-clause-took : goal.invariant_of-seat-in-Mark-clause-took
invariant_of-seat-in-Mark-clause-took g c =
    let seat = c.args.seat.now in
    takes_mark g.O.Outcome.fits seat.pass c.try_take.new.pass seat.finished.items _
    seat.closed.items _ c.in-Some.parcel c.in-Mark.end seat.took
    c.try_take.ensures.writer c.in-Some.ensures.taken c.in-Mark.is c.reserve_one.ensures.items
    c.close_flag.ensures

pub invariant_of-seat-in-Mark-clause-counted : goal.invariant_of-seat-in-Mark-clause-counted
invariant_of-seat-in-Mark-clause-counted g c =
    rw c.reserve_one.ensures.items c.args.seat.now.counted

pub returns-in-Job : goal.returns-in-Job
returns-in-Job g c =
    record { pass = c.try_take.ensures.pass; here = c.requires.here; ends = refl }

pub returns-in-Mark : goal.returns-in-Mark
returns-in-Mark g c = record {
  pass = c.try_take.ensures.pass;
  here = c.requires.here;
  ends = ap (λ (l : List Bool). length l) c.close_flag.ensures
      ∙ length_set c.args.seat.now.closed.items c.in-Mark.end true;
}

-- where memory is refused, the seat is as it was
pub returns-then-is_err : goal.returns-then-is_err
returns-then-is_err g c =
    record { pass = c.requires.pass; here = c.requires.here; ends = refl }
