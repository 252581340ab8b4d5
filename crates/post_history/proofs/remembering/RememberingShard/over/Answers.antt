use Rattle.std.proofs.Common.{ap}
use Rattle.post_history.specs.Posts.{posts_of}
use Rattle.post_history.proofs.Begun.{begins}
use Rattle.post_history.proofs.remembering.RememberingShard.over.Goals as goal

-- before the first post it knows what it took
pub invariant_of-result-2 : goal.invariant_of-result-2
invariant_of-result-2 g c = record {
  remembers = λ found. begins c.args.shard _ g.J.Naming.began c.args.number _
      (ap (posts_of c.args.number) c.requires.none) c.requires.takes;
}
