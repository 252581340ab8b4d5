-- A buffer set that is stopped and started again in place (docs/PROTOCOL.md, Restart).
use Rattle.std.specs.Prelude.{◌≡◌, ◌≢◌, ℕ, ◌+◌, ◌^◌, ◌<◌, ◌≤◌, true, List, None, Some}
use Rattle.std.specs.Prelude.{length, slice_get, Result, Ok, Err}
use Rattle.cyc_block.specs.Store.{block_at}
use Rattle.cyc_block.specs.declared.store.BlockStore.{Ghosts}
use Rattle.cyc_buffer.specs.Agreement.{Agrees, Follows, buffer_state_of, store_of}
use Rattle.cyc_buffer.specs.Head.{has_open_head, stop_of}
use Rattle.cyc_buffer.specs.History.{History}
use Rattle.cyc_buffer.specs.Stopped.{numbers_of}
use Rattle.cyc_buffer.specs.declared.answers.StartError.{StartError}
use Rattle.cyc_buffer.specs.declared.answers.StartError.TheVariants as starts
use Rattle.cyc_buffer.specs.declared.buffer.Buffer.{Buffer}
use Rattle.cyc_buffer.specs.declared.restarting.RestartError.{RestartError}
use Rattle.cyc_buffer.specs.declared.restarting.RestartError.TheVariants as errors
use Rattle.news_terms.specs.Courses.{Course}
use Rattle.news_terms.specs.HeadBlocks.{Open, head_image}
use Rattle.news_terms.specs.Places as places
use Rattle.relay_model.specs.State.{Kept}
use Rattle.relay_model.specs.Terms.{Terms}
use Rattle.relay_model.specs.World as world
use Rattle.block_shelf.specs.Each.{AreEach, HasAt}
use Rattle.block_shelf.specs.Keeping.{KeepsTexts}
use Rattle.block_shelf.specs.Leaving.{Trust}
use Rattle.block_shelf.specs.Stopping.{IsBusyBufferSet}
use Rattle.block_shelf.specs.declared.restarting.RestartFault.{RestartFault}
use Rattle.block_shelf.specs.declared.restarting.RestartFault.TheVariants as faults
use Rattle.block_shelf.specs.declared.buffer_set.BufferSet.{BufferSet}

-- the device of the buffer of this number has failed
pub record FailedAt (w : Terms) (number : ℕ) (before after : ℕ → ℕ) : Type 0 where
  pub buffer : places.Buffer
  pub there : slice_get w.buffers number ≡ Some buffer
  pub failed : world.HasFailedAt buffer.number before after

-- What came of a restart. Done or not, over honest stores and over others, the buffer set keeps
-- what it kept. Where it is done no device has failed; it is refused for memory, and over honest
-- stores else for a device that failed alone.
pub record StaysKept {S : Type 0} {g : Ghosts S} (trusted : Trust) (w : Terms)
    (begun : ℕ → Course) (kept : List Kept) (failures : ℕ → ℕ)
    (result : Result (Unit {0}) RestartFault) (new : BufferSet S g)
    : Type 0 where
  pub later : ℕ → ℕ
  pub rises : world.Rises failures later
  pub keeps : KeepsTexts trusted new w begun kept (λ h. None) later
  pub unfailed : result ≡ Ok tt → (n : ℕ) → later n ≡ failures n
  pub free : result ≢ Err faults.Busy
  pub failed : (number : ℕ) → result ≡ Err (faults.Failed number) → trusted.honest ≡ true
      → FailedAt w number failures later

-- a buffer set in which no write is open stays kept
abbrev pub KeepsOn : {S : Type 0} {g : Ghosts S} → (old : BufferSet S g)
    → Result (Unit {0}) RestartFault → (new : BufferSet S g) → Type 0
KeepsOn old result new =
    (trusted : Trust) (w : Terms) (begun : ℕ → Course) (kept : List Kept) (failures : ℕ → ℕ)
    → KeepsTexts trusted old w begun kept (λ h. None) failures
    → StaysKept trusted w begun kept failures result new

-- The buffer was stopped and started again: its head block says its numbers as open, under the
-- number of the stop. It agrees with what it agreed with, and its device hasn't failed.
pub record IsRestartedFrom {S : Type 0} {g : Ghosts S} (stop b : ℕ) (old new : Buffer S g) : Type 0
  where
    pub opened : has_open_head new ≡ true
    pub under : stop_of new ≡ stop
    pub written : (h : History) → Agrees true old h
        → block_at (g.heads (store_of new)) 0 ≡ head_image (numbers_of Open stop h)
    pub same : Follows (λ h. h) old new
    pub buffer_state : buffer_state_of new ≡ buffer_state_of old
    pub no_failure : g.failures (store_of new) ≡ g.failures (store_of old)

-- each buffer was, and the groups are as they were
pub record AreRestarted {S : Type 0} {g : Ghosts S} (stop : ℕ) (old new : BufferSet S g)
    : Type 0 where
  pub each : AreEach (IsRestartedFrom stop) old.buffers.items new.buffers.items
  pub placed_groups : new.placed_groups ≡ old.placed_groups

-- as Busy a buffer set with an open write is refused, and is as it was
abbrev pub IsBusyRestart : {S : Type 0} {g : Ghosts S} → (old : BufferSet S g) → RestartFault
    → (new : BufferSet S g) → Type 0
IsBusyRestart old faults.Busy new = IsBusyBufferSet old × (new ≡ old)
IsBusyRestart old faults.Memory new = IsBusyBufferSet old → ⊥
IsBusyRestart old (faults.Failed number) new = IsBusyBufferSet old → ⊥

-- the restart ended at the buffer at this place: each before it was restarted, and those behind it
-- and the groups are as they were
pub record EndsAt {S : Type 0} {g : Ghosts S} (stop place : ℕ) (old new : BufferSet S g)
    : Type 0 where
  pub within : place < length old.buffers.items
  pub before : (b : ℕ) (one : Buffer S g) → b < place → slice_get old.buffers.items b ≡ Some one
      → HasAt (IsRestartedFrom stop) new.buffers.items b one
  pub behind : (b : ℕ) → place < b
      → slice_get new.buffers.items b ≡ slice_get old.buffers.items b
  pub placed_groups : new.placed_groups ≡ old.placed_groups

-- a fault that names a buffer names the one at this place
abbrev pub IsFaultOfPlace : (place : ℕ) → RestartFault → Type 0
IsFaultOfPlace place faults.Busy = Unit {0}
IsFaultOfPlace place faults.Memory = Unit {0}
IsFaultOfPlace place (faults.Failed number) = place < 2 ^ 8 → number ≡ place

-- a restart that isn't refused as Busy ended at a buffer, which the fault names if it names one
abbrev pub IsRefusedRestart : {S : Type 0} {g : Ghosts S} → (stop : ℕ) → RestartFault
    → (old new : BufferSet S g) → Type 0
IsRefusedRestart stop faults.Busy old new = Unit {0}
IsRefusedRestart stop faults.Memory old new = (place : ℕ) × EndsAt stop place old new
IsRefusedRestart stop (faults.Failed number) old new =
    (place : ℕ) × (place < 2 ^ 8 → number ≡ place) × EndsAt stop place old new

-- STEP BY STEP

-- the buffer at this place may be another, and all else is as it was
pub record LeavesOthers {S : Type 0} {g : Ghosts S} (place : ℕ) (old new : BufferSet S g)
    : Type 0 where
  pub others : (b : ℕ) → b ≢ place
      → slice_get new.buffers.items b ≡ slice_get old.buffers.items b
  pub placed_groups : new.placed_groups ≡ old.placed_groups

-- the fault isn't Busy
abbrev pub IsOtherFault : RestartFault → Type 0
IsOtherFault faults.Busy = ⊥
IsOtherFault faults.Memory = Unit {0}
IsOtherFault (faults.Failed number) = Unit {0}

-- the fault where it isn't started from what was written
abbrev pub start_fault : StartError → ℕ → RestartFault
start_fault starts.Memory number = faults.Memory
start_fault starts.Device number = faults.Failed number
start_fault starts.NoHead number = faults.Failed number
start_fault starts.Unclosed number = faults.Failed number
start_fault starts.Damaged number = faults.Failed number

-- the buffers before this place were restarted, and those behind it are as they were
pub record IsRestartedTo {S : Type 0} {g : Ghosts S} (stop place b : ℕ) (old new : Buffer S g)
    : Type 0 where
  pub before : b < place → IsRestartedFrom stop b old new
  pub behind : place ≤ b → new ≡ old

-- a restart as far as this place: the buffers before it, and the groups as they were
pub record HaveRestarted {S : Type 0} {g : Ghosts S} (stop place : ℕ) (old new : BufferSet S g)
    : Type 0
  where
    pub each : AreEach (IsRestartedTo stop place) old.buffers.items new.buffers.items
    pub placed_groups : new.placed_groups ≡ old.placed_groups

-- it goes on by the buffer at this place
abbrev pub RestartsNext : {S : Type 0} {g : Ghosts S} → (stop place : ℕ) → (old new : BufferSet S g)
    → Type 0
RestartsNext {S} {g} stop place old new =
    (first : BufferSet S g) → HaveRestarted stop place first old
    → HaveRestarted stop (place + 1) first new

-- the fault of a buffer set where the buffer of this number isn't restarted
abbrev pub restart_fault : RestartError → ℕ → RestartFault
restart_fault (errors.Stop error) number = faults.Failed number
restart_fault (errors.Start error) number = start_fault error number
restart_fault (errors.Open error) number = faults.Failed number
