use Rattle.std.proofs.Common.{◌∙◌, ◌+◌, ℕ, refl, sym, ap, arith}
use Rattle.live_jobs.proofs.Jobs.{answer_listed, answer_unlisted}
use Rattle.live_jobs.proofs.answers.mismatched.Goals as goal

pub loop-answer-preserved-then-contains : goal.loop-answer-preserved-then-contains
loop-answer-preserved-then-contains g c =
    let inv = c.loop-answer.invariant in
    record {
      count = inv.count ∙ sym (answer_listed c.args.jobs.now c.args.end c.args.answers.now
          c.loop-answer.answer-index c.answer-item.result c.answer-item.result.register
          c.contains.result
          c.loop-answer-test.true c.answer-item.is refl c.contains.ensures
          c.if-contains.true);
      few = omega (arith, inv.few);
    }

pub loop-answer-preserved : goal.loop-answer-preserved
loop-answer-preserved g c =
    let inv = c.loop-answer.invariant in
    record {
      count = ap (λ (n : ℕ). n + 1) inv.count
          ∙ sym (answer_unlisted c.args.jobs.now c.args.end c.args.answers.now
          c.loop-answer.answer-index c.answer-item.result c.answer-item.result.register
          c.contains.result
          c.loop-answer-test.true c.answer-item.is refl c.contains.ensures
          c.if-contains.false);
      few = omega (arith, inv.few);
    }
