use Rattle.std.proofs.Common.{◌+◌}
use Rattle.live_jobs.proofs.PostingLemmas.{few_kept}
use Rattle.live_jobs.proofs.desk.CountedDesk.kept.Goals as goal

pub returns-clause-few : goal.returns-clause-few
returns-clause-few g c =
    few_kept c.args.self.now.desk (c.args.self.now.before + c.args.self.now.posts)
    c.args.feed c.kept.result c.kept.ensures.left c.args.self.now.kept
