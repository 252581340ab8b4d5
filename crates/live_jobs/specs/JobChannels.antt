-- The words for a channel.
use Rattle.std.specs.declared.alloc.Global.{Global}
use Rattle.crossbeam_queue.specs.declared.array_queue.Turns.{Turns}
use Rattle.job_queue.specs.Passes.{JobQueue}
use Rattle.job_queue.specs.declared.rule.InOrder.{InOrder}
use Rattle.live_jobs.specs.declared.channel.JobChannel.{JobChannel}

-- the queue of a channel
abbrev pub queue_of : JobChannel → JobQueue (Turns InOrder) Global
queue_of channel = channel.queue
