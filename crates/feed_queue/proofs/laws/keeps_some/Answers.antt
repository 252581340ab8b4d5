use Rattle.feed_queue.proofs.SomeFeeds.{sizes_of, feeds_of, keeps-some}
use Rattle.feed_queue.proofs.laws.keeps_some.Goals as goal

-- feeds that lost whatever doesn't wait
pub returns : goal.returns
returns c =
    let rings = c.args.desk.now.rings.items in
    (sizes_of rings, (feeds_of rings, keeps-some rings))
