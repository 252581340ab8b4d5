use Rattle.std.proofs.Common.{arith}
use Rattle.live_jobs.proofs.Jobs.{ends_next}
use Rattle.live_jobs.proofs.answers.all_mismatched.Goals as goal

pub loop-end-preserved : goal.loop-end-preserved
loop-end-preserved g c =
    let inv = c.loop-end.invariant in
    let next = ends_next c.args.jobs.now c.args.answers.now c.loop-end.end
    c.index-answers-end.result c.loop-end-test.true c.index-answers-end.is in
    record {
      count = omega (arith, inv.count, next, c.mismatched.ensures.count);
      few = omega (arith, inv.few, c.mismatched.ensures.few);
    }
