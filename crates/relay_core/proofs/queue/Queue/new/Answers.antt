use Rattle.std.proofs.Common.{rules}
use Rattle.relay_core.specs.Queues.{jobs_of}
use Rattle.relay_core.proofs.queue.Queue.new.Goals as goal

pub returns : goal.returns
unfolding jobs_of
returns c = search rules
