-- The types of a job queue and of its passes, and that both are of one queue.
use Rattle.std.specs.Prelude.{Option}
use Rattle.crossbeam_queue.specs.Passes as passes
use Rattle.crossbeam_queue.specs.declared.array_queue.Doing.{Doing}
use Rattle.crossbeam_queue.specs.declared.array_queue.Slotted.{Slotted}
use Rattle.job_queue.specs.declared.known.Known.{Known}
use Rattle.job_queue.specs.declared.parcel.Parcel.{Parcel}

-- a job queue, whatever its rule and where its memory is from
abbrev pub JobQueue : Type 0 → Type 0 → Type 0
JobQueue Q A = Slotted (Option Parcel) (Doing Parcel Known) Q A

-- a pass of some job queue
abbrev pub QueuePass : Type 0
QueuePass = passes.Pass Parcel Known
