use Rattle.crossbeam_queue.specs.Passes.{view}
use Rattle.job_queue.proofs.Comparing.{told_nothing}
use Rattle.job_queue.proofs.queue.compare_rest.Goals as goal

pub returns-clause-none : goal.returns-clause-none
returns-clause-none c =
    let learned = c.compare_ends.ensures.compared in
    told_nothing (view c.args.writer.now) (view c.args.first.now) learned.0 c.requires.writer
    c.requires.none learned.1
