use Rattle.crossbeam_queue.specs.Passes.{view}
use Rattle.job_queue.proofs.Steps.{compares}
use Rattle.job_queue.proofs.Splits.{meets, cuts_ends}
use Rattle.job_queue.proofs.Comparing.{writer_again, other_again, learned_of}
use Rattle.job_queue.proofs.queue.compare_ends.Goals as goal

pub another-lent-requires-clause-rule : goal.another-lent-requires-clause-rule
another-lent-requires-clause-rule c = cuts_ends _ _

pub absorb-requires-clause-rule : goal.absorb-requires-clause-rule
absorb-requires-clause-rule c = meets _ _ _ _

pub learn_as-requires-clause-rule : goal.learn_as-requires-clause-rule
learn_as-requires-clause-rule c = compares _ _

pub another-back-requires-clause-rule : goal.another-back-requires-clause-rule
another-back-requires-clause-rule c = cuts_ends _ _

pub absorb-requires-2-clause-rule : goal.absorb-requires-2-clause-rule
absorb-requires-2-clause-rule c = meets _ _ _ _

pub returns-clause-same : goal.returns-clause-same
returns-clause-same c =
    let lent = c.another-lent.ensures.rule in
    let back = c.another-back.ensures.rule in
    let met = c.absorb.ensures.rule in
    let learned = c.learn_as.ensures.queue.1 in (
      writer_again _ (view c.another-lent.result) _ _ _ c.requires.writer met learned back.0,
      other_again (view c.args.writer.now) _ _ (view c.another-lent.result) _ _ _ _
          lent.0 lent.1 met
          learned back.1 c.absorb-2.ensures.rule,
    )

pub returns-clause-compared : goal.returns-clause-compared
returns-clause-compared c =
    let learned = c.learn_as.ensures.rule in (
      learned.0,
      learned_of (view c.args.writer.now) (view c.args.other.now) (view c.another-lent.result) _
          learned.0 c.another-lent.ensures.rule.1 c.absorb.ensures.rule learned.1,
    )
