use Rattle.job_queue.proofs.Comparing.{told_whole}
use Rattle.job_queue.proofs.queue.compare.Goals as goal

pub returns-clause-all : goal.returns-clause-all
returns-clause-all c =
    let learned = c.compare_ends.ensures.compared in
    told_whole c.args.end _ _ learned.0 c.requires.writer c.requires.own learned.1
