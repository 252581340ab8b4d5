use Rattle.std.proofs.Common.{◌∙◌, List, length, refl, subst, sym}
use Rattle.live_jobs.specs.declared.outcome.FinishedJob.{FinishedJob}
use Rattle.live_jobs.specs.Gathered.{AllTold, NoneElse, hands_of}
use Rattle.live_jobs.proofs.Ends.{lefts_fit, writers_fit}
use Rattle.live_jobs.proofs.gather.close.Goals as goal

pub compare_all-requires-clause-lefts : goal.compare_all-requires-clause-lefts
compare_all-requires-clause-lefts g c = lefts_fit _ _ c.requires.lefts

pub compare_all-requires-clause-writers : goal.compare_all-requires-clause-writers
compare_all-requires-clause-writers g c =
    let e = c.count_all-totals.ensures in
    writers_fit (λ w. w.pass) (λ w. w.lent) (λ w. w.closed.items) _ _ c.args.seats.now.writers.items
    _ _ c.requires.writers.0 c.requires.writers.1 e.pass e.closed

pub count_all-totals-requires-clause-parts : goal.count_all-totals-requires-clause-parts
count_all-totals-requires-clause-parts g c = (sym c.requires.parts.0, c.requires.parts.1)

pub count_all-totals-requires-clause-here : goal.count_all-totals-requires-clause-here
count_all-totals-requires-clause-here g c = λ k w at. (c.requires.writers.1 k w at).2

-- what the writers told and what the ends handed over stay
pub returns : goal.returns
returns g c =
    let counted = c.count_all-totals.ensures in
    let told = c.compare_all.ensures in
    let seats = c.args.seats.now in
    record {
      jobs = subst (λ (finished_lists : List (List (FinishedJob _))).
          AllTold g.O.Outcome.fits finished_lists (hands_of seats.lefts.items))
          counted.finished told.told;
      none = subst (λ (finished_lists : List (List (FinishedJob _))).
          NoneElse (length seats.lefts.items) finished_lists) counted.finished told.none;
      accepted = counted.accepted;
      posted = counted.posted;
      made = counted.made;
      same = counted.same;
      rings = counted.rings;
      finished = told.finished ∙ counted.finished;
      handed = told.handed;
      services = refl;
    }
