-- The digits of a number compute once `digits` is opened.
use Rattle.std.proofs.Common.{refl}
use Rattle.std.specs.Fmt.{digits}
use Rattle.news_terms.proofs.replies.feed_reply_examples.Goals as goal

pub returns-clause-queue : goal.returns-clause-queue
unfolding digits
returns-clause-queue c = refl

pub returns-clause-queue_of_two : goal.returns-clause-queue_of_two
unfolding digits
returns-clause-queue_of_two c = refl

pub returns-clause-queue_of_many : goal.returns-clause-queue_of_many
unfolding digits
returns-clause-queue_of_many c = refl

pub returns-clause-empty_queue : goal.returns-clause-empty_queue
unfolding digits
returns-clause-empty_queue c = refl
