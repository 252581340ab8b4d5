use Rattle.feed_queue.proofs.LeftLaws.{some_left}
use Rattle.feed_queue.proofs.laws.each_was_left.Goals as goal

pub returns : goal.returns
returns c = some_left
