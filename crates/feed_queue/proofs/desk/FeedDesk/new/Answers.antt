use Rattle.std.proofs.Common.{rules}
use Rattle.feed_queue.specs.Feeds.{no_feed}
use Rattle.feed_queue.proofs.DeskLemmas.{keeps-next}
use Rattle.feed_queue.proofs.desk.FeedDesk.new.Goals as goal

-- one more ring
pub loop-feed-preserved : goal.loop-feed-preserved
loop-feed-preserved c = record {
  count = search rules;
  room = search rules;
  keep = keeps-next _ _ _ _ _ _ (λ f. no_feed) c.push_reserved.ensures.items c.loop-feed-test.true
      c.feed-item.is c.in_ok-new.ensures c.loop-feed.invariant.keep;
}
