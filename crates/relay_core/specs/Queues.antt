-- The jobs of a queue.
use Rattle.std.specs.Prelude.{◌≡◌, List, [], ◌∷◌, Option, None, Some}
use Rattle.buffer_group.specs.declared.job.Job.{Job}
use Rattle.relay_core.specs.declared.queue.Queue.{Queue}

-- the jobs that wait, from the oldest on
unfoldable pub jobs_of : Queue → List Job
jobs_of queue = queue.jobs.items

-- the oldest job is taken, if there is one
abbrev pub IsPopped : List Job → Option Job → List Job → Type 0
IsPopped old None new = (old ≡ []) × (new ≡ [])
IsPopped old (Some job) new = old ≡ job ∷ new
