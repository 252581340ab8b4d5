-- What stands in the slot of an end (docs/PROTOCOL.md, Threads).
use Rattle.std.specs.Prelude.{ℕ, Option, None, Some, nat_lt, ◌==◌, if◌then◌else◌}
use Rattle.live_jobs.specs.declared.store_result.JobAnswer.{JobAnswer}
use Rattle.live_store.specs.declared.record.StorePremises.{Ghosts}
use Rattle.relay_live.specs.declared.slot.told.Filled.{Filled}
use Rattle.relay_live.specs.declared.slot.told.Told.{Told}
use Rattle.std.specs.Sync.Mutex.{mutex_guard_value}

-- after an answer is told: of two answers that of the later job stays
abbrev pub after_tell : {J : Type 0} {g : Ghosts J} → Option (JobAnswer J g) → JobAnswer J g
    → Option (JobAnswer J g)
after_tell None answer = Some answer
after_tell (Some held) answer =
    if nat_lt answer.number held.number then Some held else Some answer

-- the number of the job whose answer was put into a slot
abbrev pub filled_number : {J : Type 0} {g : Ghosts J} → Filled J g → ℕ
filled_number filled = filled.number

-- what stands in that slot
abbrev pub filled_value : {J : Type 0} {g : Ghosts J} → Filled J g → Option (JobAnswer J g)
filled_value filled = mutex_guard_value filled.guard

-- the number of the job that an end was told of
abbrev pub told_number : Told → ℕ
told_number told = told.number

-- what who waits for the job of this number is told: the answer of this very job
abbrev pub told_to : {J : Type 0} {g : Ghosts J} → Option (JobAnswer J g) → (number : ℕ)
    → Option (JobAnswer J g)
told_to None number = None
told_to (Some held) number = if held.number == number then Some held else None

-- what stays once it looked: the answer of a later job alone
abbrev pub left_by : {J : Type 0} {g : Ghosts J} → Option (JobAnswer J g) → (number : ℕ)
    → Option (JobAnswer J g)
left_by None number = None
left_by (Some held) number = if nat_lt number held.number then Some held else None
