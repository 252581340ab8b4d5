use Rattle.std.proofs.Common.{rules}
use Rattle.relay_core.specs.Queues.{jobs_of}
use Rattle.relay_core.proofs.queue.Queue.push.Goals as goal

pub push_back_reserved-requires : goal.push_back_reserved-requires
unfolding jobs_of
push_back_reserved-requires c = search rules

pub returns : goal.returns
unfolding jobs_of
returns c = search rules
