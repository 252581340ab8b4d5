use Rattle.feed_queue.proofs.LeftLaws.{one_left}
use Rattle.feed_queue.proofs.laws.one_is_left.Goals as goal

pub returns : goal.returns
returns c = one_left
