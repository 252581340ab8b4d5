use Rattle.std.proofs.Common.{arith}
use Rattle.feed_queue.proofs.DeskLemmas.{below-more, counts-above, next-gained, all-gained}
use Rattle.feed_queue.proofs.desk.FeedDesk.post.Goals as goal

-- one feed more has gained the token
pub loop-place-preserved : goal.loop-place-preserved
loop-place-preserved c = record {
  below = below-more _ _ _ _ (omega arith) (omega arith) (omega arith) c.loop-place.invariant.below;
  counts = λ room. counts-above _ _ _ (omega arith)
      (c.gain_once.ensures.counts _ (c.loop-place.invariant.counts room));
  keeps = λ sizes feed room keeps. next-gained _ sizes feed _ _ _ (omega arith)
      (c.gain_once.ensures.keeps sizes feed c.loop-place.invariant.below
      (counts-above _ _ _ (omega arith) (c.loop-place.invariant.counts room))
      (c.loop-place.invariant.keeps sizes feed room keeps));
}

-- all have gained it
pub returns : goal.returns
returns c sizes feed room keeps =
    all-gained _ sizes feed _ _ _ _ (omega arith) c.spend-token.ensures
    (c.loop-place.invariant.keeps sizes feed room keeps)
