-- The list of the jobs that a writer took.
use Rattle.std.specs.Prelude.{ℕ, ◌<◌, List}
use Rattle.live_jobs.specs.declared.finished.ToldJob.{ToldJob}
use Rattle.live_jobs.specs.declared.outcome.FinishedJob.{FinishedJob}

-- the jobs, and for how many more the list has memory
pub record FinishedItems (O : Type 0) : Type 0 where
  pub items : List (FinishedJob O)
  pub places : ℕ

-- there is memory for one job more
abbrev pub HasRoom : {O : Type 0} → FinishedItems O → Type 0
HasRoom list = 0 < list.places

-- what is kept of a job
abbrev pub told_of_job : {O : Type 0} → FinishedJob O → ToldJob O
told_of_job d = record { end = d.end; number = d.number; outcome = d.outcome }
