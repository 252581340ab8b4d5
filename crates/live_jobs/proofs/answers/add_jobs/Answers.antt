use Rattle.std.proofs.Common.{refl, arith}
use Rattle.live_jobs.specs.Sets.{has_job}
use Rattle.live_jobs.proofs.Jobs.{one_more_job, no_job, conflicts_next, told_next}
use Rattle.live_jobs.proofs.Rows.{counted_on, counted_still}
use Rattle.live_jobs.proofs.answers.add_jobs.Goals as goal

pub loop-one-preserved-in-Kept : goal.loop-one-preserved-in-Kept
loop-one-preserved-in-Kept g c =
    let inv = c.loop-one.invariant in
    let from = told_next c.args.finished.now.items c.all-told.result.now c.loop-one.one-index
    c.one-item.result c.all-told.ensures.items c.loop-one-test.true c.one-item.is in
    let updates = c.in_ok-insert-in-Kept.ensures.updates in
    let same = conflicts_next _ _ _ _ from.1 c.in-Kept.is in
    record {
      jobs = λ end number register.
          one_more_job _ _ _ c.in-Kept.receipt c.in-Kept.field-1 c.number.result
          (has_job c.loop-one.jobs end number register)
          (has_job c.insert.new.self end number register) _ end number register from.1
          c.in-Kept.is c.number.ensures (updates.0 (end, number, register))
          (inv.jobs end number register);
      conflict = counted_still _ _ _ _ inv.conflict same;
      few = omega (arith, inv.few);
    }

pub loop-one-preserved-in-Failed : goal.loop-one-preserved-in-Failed
loop-one-preserved-in-Failed g c =
    let inv = c.loop-one.invariant in
    let from = told_next c.args.finished.now.items c.all-told.result.now c.loop-one.one-index
    c.one-item.result c.all-told.ensures.items c.loop-one-test.true c.one-item.is in
    let same = conflicts_next _ _ _ _ from.1 c.in-Failed.is in
    record {
      jobs = λ end number register.
          no_job _ _ _ _ (has_job c.loop-one.jobs end number register) _ end number
          register from.1 c.in-Failed.is refl (inv.jobs end number register);
      conflict = counted_still _ _ _ _ inv.conflict same;
      few = omega (arith, inv.few);
    }

pub loop-one-preserved : goal.loop-one-preserved
loop-one-preserved g c =
    let inv = c.loop-one.invariant in
    let from = told_next c.args.finished.now.items c.all-told.result.now c.loop-one.one-index
    c.one-item.result c.all-told.ensures.items c.loop-one-test.true c.one-item.is in
    let same = conflicts_next _ _ _ _ from.1 c.in-Conflict.is in
    record {
      jobs = λ end number register.
          no_job _ _ _ _ (has_job c.loop-one.jobs end number register) _ end number
          register from.1 c.in-Conflict.is refl (inv.jobs end number register);
      conflict = counted_on _ _ _ _ inv.conflict same;
      few = omega (arith, inv.few);
    }
