-- What the seat of a writer knows (docs/PROTOCOL.md, Threads and Job queues).
use Rattle.std.specs.Prelude.{◌≡◌, ℕ, ◌+◌, Bool, true, List, [], ◌∷◌, map, Some, slice_get, cond}
use Rattle.crossbeam_queue.specs.Passes.{view}
use Rattle.job_queue.specs.Delivery.{OfWriter}
use Rattle.job_queue.specs.Parcels.{of_end, has_mark, jobs_of}
use Rattle.job_queue.specs.Passes.{QueuePass}
use Rattle.job_queue.specs.declared.known.Known.{Known}
use Rattle.job_queue.specs.declared.parcel.Handed.{Handed}
use Rattle.live_jobs.specs.Names.{Name}
use Rattle.live_jobs.specs.declared.outcome.FinishedJob.{FinishedJob}

-- the name of a job that was handed over
abbrev pub name_of : Handed → Name
name_of handed = record { end = handed.end; number = handed.number; id = handed.job.id }

-- the name under which a writer tells what became of a job
abbrev pub finished_name : {O : Type 0} → FinishedJob O → Name
finished_name finished = record { end = finished.end; number = finished.number; id = finished.id }

-- a job that is kept counts as one
abbrev pub worth : Bool → ℕ
worth kept = cond kept 1 0

-- how many of the jobs are kept
abbrev pub kept_in : {O : Type 0} → (O → Bool) → List (FinishedJob O) → ℕ
kept_in kept [] = 0
kept_in kept (d ∷ ds) = worth (kept d.outcome) + kept_in kept ds

-- each outcome fits the job at its place
abbrev pub FitEach : {O : Type 0} → (O → Handed → Type 0) → List (FinishedJob O)
    → List Handed → Type 0
FitEach {O} fits finished jobs =
    (k : ℕ) (d : FinishedJob O) (j : Handed) → slice_get finished k ≡ Some d
    → slice_get jobs k ≡ Some j
    → ∥ fits d.outcome j ∥₁

-- the pass takes, and knows all that was taken; each job that was taken is told once, in order,
-- under its own name, with an outcome that fits; where an end is noted as closed, its mark was
-- taken
pub record Took {O : Type 0} (fits : O → Handed → Type 0) (pass : QueuePass)
    (finished : List (FinishedJob O)) (closed : List Bool) : Type 0 where
  pub takes : OfWriter (view {V = Known} pass)
  pub told : map finished_name finished ≡ map name_of (jobs_of (view {V = Known} pass).taken)
  pub fit : FitEach fits finished (jobs_of (view {V = Known} pass).taken)
  pub marks : (e : ℕ) → slice_get closed e ≡ Some true
      → has_mark (of_end e (view {V = Known} pass).taken) ≡ true
