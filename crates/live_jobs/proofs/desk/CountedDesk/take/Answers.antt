use Rattle.std.proofs.Common.{◌+◌}
use Rattle.live_jobs.proofs.PostingLemmas.{kept_taken, few_of_any}
use Rattle.live_jobs.proofs.desk.CountedDesk.take.Goals as goal

-- no list that the desk keeps is longer
pub invariant_of-self : goal.invariant_of-self
invariant_of-self g c =
    record {
      counted = c.args.self.now.counted;
      room = c.args.self.now.room;
      kept = kept_taken c.args.self.now.desk c.take.new.self
          (c.args.self.now.before + c.args.self.now.posts) c.args.feed c.args.most c.take.result
          c.take.ensures.keeps c.take.ensures.none c.take.ensures.err
          c.args.self.now.kept;
    }

pub returns-clause-most : goal.returns-clause-most
returns-clause-most g c =
    few_of_any c.args.self.now.desk (c.args.self.now.before + c.args.self.now.posts)
    c.args.feed c.args.most c.take.result
    c.take.ensures.taken c.args.self.now.kept
