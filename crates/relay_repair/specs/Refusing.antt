-- Why a relay isn't repaired, and what that leaves (docs/PROTOCOL.md, Crashes).
use Rattle.std.specs.Prelude.{◌≡◌, ℕ, ◌<◌, All, List, length, Option, None, Some}
use Rattle.cyc_block.specs.declared.store.BlockStore.{Ghosts}
use Rattle.cyc_buffer.specs.Head.{LeavesBlocks}
use Rattle.found_texts.specs.declared.fault.ReadFault.{ReadFault}
use Rattle.found_texts.specs.declared.fault.ReadFault.TheVariants as reads
use Rattle.id_history.specs.History as texts
use Rattle.relay_conf.specs.declared.settings.Config.{Config}
use Rattle.relay_core.specs.declared.stopped.NotStarted.{NotStarted}
use Rattle.relay_core.specs.declared.stopped.NotStarted.TheVariants as nots
use Rattle.block_shelf.specs.Each.{AreEach}
use Rattle.block_shelf.specs.Starting.{IsFromOutside, IsUnwritten}
use Rattle.block_shelf.specs.declared.starting.StopFault.{StopFault}
use Rattle.block_shelf.specs.declared.starting.StopFault.TheVariants as faults
use Rattle.block_shelf.specs.declared.starting.Unstarted.{Unstarted}
use Rattle.buffer_repair.specs.Finding.{IsUnfoundSet}
use Rattle.buffer_repair.specs.Parts.{store_in}
use Rattle.buffer_repair.specs.declared.found_set.FoundBufferSet.{FoundBufferSet}
use Rattle.cyc_buffer.specs.declared.starting.Started.{Started}
use Rattle.relay_remains.specs.Heads.{IsFirstFault, MayHaveEnded, failed_head}
use Rattle.relay_remains.specs.declared.heads.HeadFault.{HeadFault}
use Rattle.relay_repair.specs.Telling.{IsLast, IsNoHistory, last_stop}

-- The store of a buffer, where the device of the one at a place failed while it was read or shut.
-- Its blocks stay, so that a crash may leave of it now what it may have left of it before.
pub record IsLeftAt {S : Type 0} (g : Ghosts S) (place b : ℕ) (old new : S) : Type 0 where
  pub rest : LeavesBlocks g old new
  pub failed : b ≡ place → g.failures old < g.failures new

-- why the stores of a relay aren't repaired, whose last history is of this stop; want of memory may
-- come in place of each other reason
pub data IsRefusedOver {S : Type 0} (g : Ghosts S) (stop : ℕ) (stores : List S)
    (refused : Unstarted S)
    : Type 0 where
  -- memory was refused; all stores are unwritten
  HasNoRoom : refused.error ≡ faults.Memory → refused.buffer ≡ None
      → AreEach (IsUnwritten g None) stores refused.stores.items
      → IsRefusedOver g stop stores refused
  -- a head isn't read, or is none that a crash leaves; all stores are unwritten
  IsByHead : (fault : HeadFault) → IsFirstFault g stop stores fault → refused.error ≡ fault.error
      → refused.buffer ≡ Some fault.place
      → AreEach (IsUnwritten g (failed_head fault.error fault.place)) stores refused.stores.items
      → IsRefusedOver g stop stores refused
  -- the device of a buffer failed
  HasFailed : (place : ℕ) → place < length stores → refused.error ≡ faults.Device
      → refused.buffer ≡ Some place → AreEach (IsLeftAt g place) stores refused.stores.items
      → IsRefusedOver g stop stores refused

-- Stores are refused for one of these reasons; where they are honest, and each head is one that a
-- crash leaves, for want of memory or for a device that failed alone.
pub record IsRefusedAfter {S : Type 0} (g : Ghosts S) (stop : ℕ) (stores : List S)
    (refused : Unstarted S)
    : Type 0 where
  pub reason : IsRefusedOver g stop stores refused
  pub cause : All g.honest stores → MayHaveEnded g stop stores → IsFromOutside refused.error

-- why a repair is refused, in the order of trial
pub data IsRepairRefusal {S : Type 0} (g : Ghosts S) (config : Config) (stores : List S)
    (text : Option (List ℕ)) (refused : Unstarted S)
    : Type 0 where
  -- memory was refused; no store was called
  HasNoMemory : refused.error ≡ faults.Memory → refused.buffer ≡ None
      → refused.stores.items ≡ stores → IsRepairRefusal g config stores text refused
  -- the text is of no history that the configuration allows; no store was called
  IsUnread : refused.error ≡ faults.BadHistory → refused.buffer ≡ None
      → refused.stores.items ≡ stores → IsNoHistory config text
      → IsRepairRefusal g config stores text refused
  -- it is of this one, but the stores are refused
  IsRefused : (last : Option texts.Kept) → IsLast config text last
      → IsRefusedAfter g (last_stop last) stores refused
      → IsRepairRefusal g config stores text refused

-- where the text is read and each head is one that a crash leaves, a repair over honest stores is
-- refused for want of memory or for a device that failed alone
abbrev pub HasCauseFor : {S : Type 0} (g : Ghosts S) → Config → (stores : List S)
    → (text : Option (List ℕ)) → Unstarted S → Type 0
HasCauseFor g config stores text refused =
    All g.honest stores → (last : Option texts.Kept) → IsLast config text last
    → MayHaveEnded g (last_stop last) stores → IsFromOutside refused.error

-- a repair is refused for one of these reasons, and what a crash left never without a cause
pub record IsRefusedFor {S : Type 0} (g : Ghosts S) (config : Config) (stores : List S)
    (text : Option (List ℕ)) (refused : Unstarted S)
    : Type 0 where
  pub reason : IsRepairRefusal g config stores text refused
  pub cause : HasCauseFor g config stores text refused

-- so it is, unless the host has no seed: then the stores come back as they are
abbrev pub IsUnrepaired : {S : Type 0} (g : Ghosts S) → Config → (stores : List S)
    → (text : Option (List ℕ)) → NotStarted S → Type 0
IsUnrepaired g config stores text (nots.Host why back) = back.items ≡ stores
IsUnrepaired g config stores text (nots.Refused refused) =
    IsRefusedFor g config stores text refused

-- STEP BY STEP

-- why these stores aren't found again and shut
pub data IsUnshutOver {S : Type 0} (g : Ghosts S) (stores : List S) (refused : Unstarted S) : Type 0
  where
    -- memory was refused
    LacksRoom : refused.error ≡ faults.Memory → refused.buffer ≡ None
        → AreEach (IsUnwritten g None) stores refused.stores.items → IsUnshutOver g stores refused
    -- they aren't found again
    AreUnfound : IsUnfoundSet g stores refused → IsUnshutOver g stores refused
    -- the device of a buffer failed afterwards
    FailsAfter : (place : ℕ) → place < length stores → refused.error ≡ faults.Device
        → refused.buffer ≡ Some place → AreEach (IsLeftAt g place) stores refused.stores.items
        → IsUnshutOver g stores refused

-- the store of a buffer that was found again is left so
abbrev pub IsLeftFrom : {S : Type 0} {g : Ghosts S} → (place b : ℕ) → Started S g → S → Type 0
IsLeftFrom {g = g} place b one store = IsLeftAt g place b (store_in one) store

-- so is one that is unwritten
abbrev pub IsUnwrittenFrom : {S : Type 0} {g : Ghosts S} → (b : ℕ) → Started S g → S → Type 0
IsUnwrittenFrom {g = g} b one store = IsUnwritten g None b (store_in one) store

-- why buffers that were found again aren't shut: memory was refused, or the device of one failed
pub data IsUnshutFrom {S : Type 0} {g : Ghosts S} (found_set : FoundBufferSet S g)
    (refused : Unstarted S)
    : Type 0 where
  NoRoomFrom : refused.error ≡ faults.Memory → refused.buffer ≡ None
      → AreEach IsUnwrittenFrom found_set.found.items refused.stores.items
      → IsUnshutFrom found_set refused
  FailedFrom : (place : ℕ) → place < length found_set.found.items → refused.error ≡ faults.Device
      → refused.buffer ≡ Some place
      → AreEach (IsLeftFrom place) found_set.found.items refused.stores.items
      → IsUnshutFrom found_set refused

-- what is told where the texts aren't read: want of memory, or the buffer whose device failed
abbrev pub IsToldAs : ReadFault → StopFault → Option ℕ → Type 0
IsToldAs reads.Memory error buffer = (error ≡ faults.Memory) × (buffer ≡ None)
IsToldAs (reads.Device number) error buffer = (error ≡ faults.Device) × (buffer ≡ Some number)
