-- What the heads of a relay's buffers say of how it ended (docs/PROTOCOL.md, Crashes).
use Rattle.std.specs.Prelude.{◌≡◌, ℕ, ◌<◌, ◌==◌, List, Option, None, Some, Result, Ok, Err}
use Rattle.std.specs.Prelude.{slice_get, if◌then◌else◌}
use Rattle.cyc_block.specs.declared.store.BlockStore.{Ghosts}
use Rattle.cyc_buffer.specs.Stopped.{Says}
use Rattle.news_terms.specs.HeadBlocks.{HeadBlock, HeadState, Open, Closed}
use Rattle.news_terms.specs.Places.{Buffer}
use Rattle.block_shelf.specs.Each.{AreEach}
use Rattle.block_shelf.specs.Starting.{IsUnwritten, buffer_over}
use Rattle.block_shelf.specs.declared.starting.StopFault.{StopFault}
use Rattle.block_shelf.specs.declared.starting.StopFault.TheVariants as faults
use Rattle.relay_core.specs.Stopping.{next_stop}
use Rattle.relay_remains.specs.declared.heads.HeadFault.{HeadFault}
use Rattle.relay_remains.specs.declared.heads.Standing.{Standing}
use Rattle.relay_remains.specs.declared.heads.Standing.TheVariants.{Stopped, Unstopped}

-- How a buffer has ended whose head says this state and this stop, where the history is of that
-- one: a head that is open at the history's stop, or closed at it; or closed at the next one, whose
-- history wasn't kept. No crash leaves any other.
abbrev pub ended_as : (history : ℕ) → HeadState → (stop : ℕ) → Option Standing
ended_as history Open stop = if stop == history then Some Unstopped else None
ended_as history Closed stop =
    if stop == history then Some Stopped
    else (if stop == next_stop history then Some Unstopped else None)

-- head block 0 of a store is that of the buffer of this number, and it has ended so
pub record HasEnded {S : Type 0} (g : Ghosts S) (history number : ℕ) (store : S)
    (standing : Standing)
    : Type 0 where
  pub head : HeadBlock
  pub says : Says (g.heads store) (buffer_over g number store) head
  pub ended : ended_as history head.state head.stop ≡ Some standing

-- head block 0 of a store is that of the buffer of this number, and of another stop
pub record IsOfOtherStop {S : Type 0} (g : Ghosts S) (history number : ℕ) (store : S) : Type 0 where
  pub head : HeadBlock
  pub says : Says (g.heads store) (buffer_over g number store) head
  pub other : (b : HeadBlock) → Says (g.heads store) (buffer_over g number store) b
      → ended_as history b.state b.stop ≡ None

-- head block 0 of a store is none of the buffer of this number
abbrev pub HasNoHead : {S : Type 0} → Ghosts S → (number : ℕ) → S → Type 0
HasNoHead g number store = (b : HeadBlock) → Says (g.heads store) (buffer_over g number store) b → ⊥

-- why a head is none that a crash leaves
abbrev pub IsHeadFault : {S : Type 0} → Ghosts S → (history number : ℕ) → S → StopFault → Type 0
IsHeadFault g history number store faults.Memory = ⊥
IsHeadFault g history number store faults.Device = Unit {0}
IsHeadFault g history number store faults.NoHead = HasNoHead g number store
IsHeadFault g history number store faults.Unclosed = ⊥
IsHeadFault g history number store faults.Damaged = ⊥
IsHeadFault g history number store faults.BadHistory = ⊥
IsHeadFault g history number store faults.Mixed = IsOfOtherStop g history number store
IsHeadFault g history number store faults.Ahead = ⊥

-- what is told of the buffer of this number, by its store
abbrev pub TellsEnd : {S : Type 0} → Ghosts S → (history number : ℕ) → S
    → Result Standing StopFault → Type 0
TellsEnd g history number store (Ok standing) = HasEnded g history number store standing
TellsEnd g history number store (Err error) = IsHeadFault g history number store error

-- the head of each of the stores, as far as they are honest, is one that a crash may leave
abbrev pub MayHaveEnded : {S : Type 0} → Ghosts S → (history : ℕ) → (stores : List S) → Type 0
MayHaveEnded {S} g history stores =
    (b : ℕ) (store : S) → slice_get stores b ≡ Some store → g.honest store
    → (standing : Standing) × HasEnded g history b store standing

-- each of them has ended so
abbrev pub HaveEnded : {S : Type 0} → Ghosts S → (history : ℕ) → (stores : List S) → Standing
    → Type 0
HaveEnded {S} g history stores Stopped =
    (b : ℕ) (store : S) → slice_get stores b ≡ Some store → g.honest store
    → HasEnded g history b store Stopped
HaveEnded {S} g history stores Unstopped =
    MayHaveEnded g history stores
    × ((b : ℕ) × (store : S) × (slice_get stores b ≡ Some store)
    × (g.honest store → HasEnded g history b store Unstopped))

-- the buffer at this place is the first whose head is none that a crash leaves
pub record IsFirstFault {S : Type 0} (g : Ghosts S) (history : ℕ) (stores : List S)
    (fault : HeadFault)
    : Type 0 where
  pub store : S
  pub there : slice_get stores fault.place ≡ Some store
  pub reason : g.honest store → IsHeadFault g history fault.place store fault.error
  pub earlier : (b : ℕ) (one : S) → b < fault.place → slice_get stores b ≡ Some one → g.honest one
      → (standing : Standing) × HasEnded g history b one standing

-- what is told of these stores
abbrev pub TellsEnds : {S : Type 0} → Ghosts S → (history : ℕ) → (stores : List S)
    → Result Standing HeadFault → Type 0
TellsEnds g history stores (Ok standing) = HaveEnded g history stores standing
TellsEnds g history stores (Err fault) = IsFirstFault g history stores fault

-- the place of the buffer whose device failed, where that is the fault
abbrev pub failed_head : StopFault → (place : ℕ) → Option ℕ
failed_head faults.Memory place = None
failed_head faults.Device place = Some place
failed_head faults.NoHead place = None
failed_head faults.Unclosed place = None
failed_head faults.Damaged place = None
failed_head faults.BadHistory place = None
failed_head faults.Mixed place = None
failed_head faults.Ahead place = None

-- the same of an answer
abbrev pub failed_of : Result Standing HeadFault → Option ℕ
failed_of (Ok standing) = None
failed_of (Err fault) = failed_head fault.error fault.place

-- nothing is written, and no device fails but that one
abbrev pub AreUnwritten : {S : Type 0} → Ghosts S → Result Standing HeadFault → (old new : List S)
    → Type 0
AreUnwritten g result old new = AreEach (IsUnwritten g (failed_of result)) old new

-- STEP BY STEP

-- the buffer of this number, with so many blocks, whose first cycle is 0
abbrev pub buffer_at : (number blocks : ℕ) → Buffer
buffer_at number blocks = record { number = number; blocks = blocks; first_cycle = 0 }

-- the place of a buffer whose device failed, by what is told of it
abbrev pub failed_in : Result Standing StopFault → (place : ℕ) → Option ℕ
failed_in (Ok standing) place = None
failed_in (Err error) place = failed_head error place

-- how a buffer is said to have ended, or to be of another stop
abbrev pub told_as : Option Standing → Result Standing StopFault
told_as (Some standing) = Ok standing
told_as None = Err faults.Mixed

-- how buffers have ended with one more, which has ended so
abbrev pub both : Standing → Standing → Standing
both standing Stopped = standing
both standing Unstopped = Unstopped
