use Rattle.std.proofs.Common.{List, refl, subst, sym}
use Rattle.crossbeam_queue.specs.Passes.{view}
use Rattle.job_queue.specs.declared.parcel.Handed.{Handed}
use Rattle.live_jobs.specs.Gathered.{Told}
use Rattle.live_jobs.proofs.Passes.{fits_at, same_step, jobs_at, read_at, of_channel}
use Rattle.live_jobs.proofs.Told.{told_whole}
use Rattle.live_jobs.proofs.session.LeftSeat.compare.Goals as goal

pub compare-requires-clause-passes : goal.compare-requires-clause-passes
compare-requires-clause-passes g c = (
  c.requires.writer _ (read_at _ _ _ c.requires.group c.index-channels-group.is),
  (fits_at _ _ _ _ _ _ _ c.requires.left c.requires.group c.index-channels-group.is
      c.index_mut-pass.ensures.value).1,
)

pub compare-requires-clause-own : goal.compare-requires-clause-own
compare-requires-clause-own g c =
    (fits_at _ _ _ _ _ _ _ c.requires.left c.requires.group c.index-channels-group.is
    c.index_mut-pass.ensures.value).2

pub returns : goal.returns
returns g c =
    let step = same_step _ _ _ _ _ _ _ _ c.requires.left c.requires.group
    c.index-channels-group.is c.index_mut-pass.ensures.value c.compare.ensures.passes.1
    c.compare.ensures.same.1 in
    record {
      left = step.0;
      end = refl;
      handed = step.1;
      pass = of_channel _ _ _ c.compare.new.writer c.requires.group c.index-channels-group.is
          c.compare.ensures.passes.0;
      writer = (refl, refl);
      told = λ jobs at.
          let here = (fits_at _ _ _ _ _ _ _ c.requires.left c.requires.group
          c.index-channels-group.is c.index_mut-pass.ensures.value).0 in
          subst (λ (js : List Handed). Told g.O.Outcome.fits c.args.self.now.end
          c.args.writer.now.finished.items js)
          (sym (jobs_at c.args.self.now.passes.items c.args.group _ jobs here at))
          (told_whole g.O.Outcome.fits c.args.self.now.end c.args.writer.now.pass _ _
          (view c.index_mut-pass.result.now) c.args.writer.now.took c.requires.closed
          c.compare.ensures.all);
    }
