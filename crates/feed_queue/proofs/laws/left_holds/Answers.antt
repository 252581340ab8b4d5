use Rattle.feed_queue.proofs.LeftLaws.{left_holds}
use Rattle.feed_queue.proofs.laws.left_holds.Goals as goal

pub returns : goal.returns
returns c = left_holds
