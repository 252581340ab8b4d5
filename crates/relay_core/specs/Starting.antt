-- A start of the relay: from what, and why not (docs/PROTOCOL.md, Clean stop and start).
use Rattle.std.specs.Prelude.{◌≡◌, ℕ, Bool, true, false, List, Some, None, length, map}
use Rattle.article_verdict.specs.Config.{terms_of}
use Rattle.cyc_block.specs.declared.store.BlockStore.{Ghosts}
use Rattle.cyc_buffer.specs.Filled.{Filled}
use Rattle.id_history.specs.History as texts
use Rattle.id_history.specs.declared.fault.HistoryError.{HistoryError}
use Rattle.id_history.specs.declared.fault.HistoryError.TheVariants as errors
use Rattle.relay_conf.specs.declared.settings.Config.{Config}
use Rattle.relay_facts.specs.Started.{HasSameStore, started}
use Rattle.relay_model.specs.State.{State}
use Rattle.relay_model.specs.Terms.{Terms}
use Rattle.relay_model.specs.World.{World}
use Rattle.relay_core.specs.Agreement.{Agrees, AgreesLeft}
use Rattle.relay_core.specs.Ahead.{is_ahead}
use Rattle.relay_core.specs.Desks.{AreOf, Reads}
use Rattle.relay_core.specs.Refusals.{HasGroupWriters}
use Rattle.relay_core.specs.Stopping.{IsShut, stop_of, IsShutLeft}
use Rattle.block_shelf.specs.Each.{AreEach}
use Rattle.block_shelf.specs.Filled.{IsFilledAs, filled_in, filled_of}
use Rattle.block_shelf.specs.Starting.{IsFromOutside, IsHeldBy, IsStartedBufferSet, IsUnwritten}
use Rattle.block_shelf.specs.Starting.{WillKeepHeld}
use Rattle.block_shelf.specs.Heads.{IsOpened}
use Rattle.block_shelf.specs.Heads as heads
use Rattle.block_shelf.specs.Starting as shelves
use Rattle.block_shelf.specs.declared.opening.UnopenedBufferSet.{UnopenedBufferSet}
use Rattle.relay_core.specs.declared.starting.Readied.{Readied}
use Rattle.relay_core.specs.declared.stopped.NotStarted.{NotStarted}
use Rattle.relay_core.specs.declared.stopped.NotStarted.TheVariants as nots
use Rattle.block_shelf.specs.declared.starting.StopFault.{StopFault}
use Rattle.block_shelf.specs.declared.starting.StopFault.TheVariants as faults
use Rattle.block_shelf.specs.declared.starting.Unstarted.{Unstarted}
use Rattle.relay_core.specs.declared.system.System.{System}

-- whether a history is ahead of what the stores hold is this: by how far the heads say that their
-- buffers are filled, which is how far they are in each state that the stores hold
pub record IsAheadAs {S : Type 0} (g : Ghosts S) (config : Config) (stores : List S)
    (kept : texts.Kept) (answer : Bool)
    : Type 0 where
  pub filled : List Filled
  pub heads : AreEach (IsFilledAs g) stores filled
  pub is : is_ahead filled kept ≡ answer
  pub states : (w : Terms) (σ : State) (failures : ℕ → ℕ)
      → IsHeldBy g config.buffers stores kept.stop w σ.begun σ.kept failures
      → filled ≡ filled_of w σ

-- whether a history is ahead of what these buffers hold is this
abbrev pub IsAheadOf : {S : Type 0} {g : Ghosts S} → UnopenedBufferSet S g → texts.Kept → Bool
    → Type 0
IsAheadOf unopened kept answer = is_ahead (map filled_in unopened.buffers.items) kept ≡ answer

-- why nothing is made of a history: memory was refused, or it is ahead of these buffers
abbrev pub IsHistoryRefusal : {S : Type 0} {g : Ghosts S} → UnopenedBufferSet S g → texts.Kept
    → StopFault → Type 0
IsHistoryRefusal unopened kept faults.Memory = Unit {0}
IsHistoryRefusal unopened kept faults.Device = ⊥
IsHistoryRefusal unopened kept faults.NoHead = ⊥
IsHistoryRefusal unopened kept faults.Unclosed = ⊥
IsHistoryRefusal unopened kept faults.Damaged = ⊥
IsHistoryRefusal unopened kept faults.BadHistory = ⊥
IsHistoryRefusal unopened kept faults.Mixed = ⊥
IsHistoryRefusal unopened kept faults.Ahead = IsAheadOf unopened kept true

-- A relay started from stores and text but for the heads of its buffers: the text is of a history
-- that isn't ahead of them, and of no other; all else is made of it.
pub record IsReadied {S : Type 0} {g : Ghosts S} (config : Config) (stores : List S)
    (text : List ℕ) (readied : Readied S g)
    : Type 0 where
  pub history : texts.Kept
  pub reads : Reads config text history
  pub only : (kept : texts.Kept) → Reads config text kept → history ≡ kept
  pub behind : IsAheadAs g config stores history false
  pub from_stores : IsStartedBufferSet stores history.stop readied.unopened
  pub keeps : WillKeepHeld config.buffers stores history.stop history.positions readied.unopened
  pub desks : AreOf config history (length config.buffers.groups.items) readied.desks
  pub stop_is : readied.stop ≡ history.stop
  pub newest_is : readied.newest ≡ history.newest

-- A relay started from stores and text. The text is of a history that isn't ahead of them, whose
-- stop and newest session it has; the buffers were started at this stop, and their heads are open.
-- Over what a relay was shut to, with its buffers, groups and feeds, it agrees with what a Restart
-- makes of each world with which that agreed.
pub record StartsOver {S : Type 0} {g : Ghosts S} (config : Config) (stores : List S)
    (text : List ℕ) (system : System S g)
    : Type 0 where
  pub config_is : system.config ≡ config
  pub laned : HasGroupWriters system
  pub history : texts.Kept
  pub reads : Reads config text history
  pub behind : IsAheadAs g config stores history false
  pub unopened : UnopenedBufferSet S g
  pub from_stores : IsStartedBufferSet stores history.stop unopened
  pub opened : IsOpened unopened system.buffer_set
  pub stop_is : stop_of system ≡ history.stop
  pub newest_is : system.newest ≡ Some history.newest
  pub agrees : (w : Terms) (stop : ℕ) (x : World) → HasSameStore w (terms_of config)
      → IsShut g w stop stores text x → Agrees true system (started x x.work.failures)
  -- where a crash may leave those stores, it may leave the relay's
  pub leaves : (w : Terms) (stop : ℕ) (x : World) → HasSameStore w (terms_of config)
      → IsShut g w stop stores text x → IsShutLeft g w stop stores x
      → AgreesLeft system (started x x.work.failures)

-- why a start is refused, in the order of trial; where it is for one reason none before it was
pub data IsStartRefusal {S : Type 0} (g : Ghosts S) (config : Config) (stores : List S)
    (text : List ℕ) (refused : Unstarted S)
    : Type 0 where
  -- memory was refused, which may be in place of each other reason; all stores are unwritten
  HasNoRoom : refused.error ≡ faults.Memory → refused.buffer ≡ None
      → AreEach (IsUnwritten g None) stores refused.stores.items
      → IsStartRefusal g config stores text refused
  -- the text is of no history that the configuration allows; no store was called
  IsUnread : refused.error ≡ faults.BadHistory → refused.buffer ≡ None
      → refused.stores.items ≡ stores → ((kept : texts.Kept) → Reads config text kept → ⊥)
      → IsStartRefusal g config stores text refused
  -- a buffer isn't started, or was stopped at another stop
  IsUnstarted : (history : texts.Kept) → Reads config text history
      → shelves.IsUnstarted g stores history.stop refused
      → IsStartRefusal g config stores text refused
  -- all are, but the history is ahead of them; all stores are unwritten
  IsAhead : (history : texts.Kept) → Reads config text history
      → (buffer_set : UnopenedBufferSet S g) → IsStartedBufferSet stores history.stop buffer_set
      → IsAheadAs g config stores history true → refused.error ≡ faults.Ahead
      → refused.buffer ≡ None → AreEach (IsUnwritten g None) stores refused.stores.items
      → IsStartRefusal g config stores text refused
  -- it isn't, but the device of a buffer failed while its head was opened
  IsUnopened : (history : texts.Kept) → Reads config text history
      → (buffer_set : UnopenedBufferSet S g) → IsStartedBufferSet stores history.stop buffer_set
      → IsAheadAs g config stores history false → heads.IsUnopened buffer_set refused
      → IsStartRefusal g config stores text refused

-- what a relay was shut to, with its buffers, groups and feeds, is refused for want of memory or
-- for a device that failed alone
abbrev pub HasCauseFor : {S : Type 0} (g : Ghosts S) → Config → (stores : List S)
    → (text : List ℕ) → Unstarted S → Type 0
HasCauseFor g config stores text refused =
    (w : Terms) (stop : ℕ) (x : World) → HasSameStore w (terms_of config)
    → IsShut g w stop stores text x → IsFromOutside refused.error

-- a start is refused in the order of the reasons, and what was shut never without a cause
pub record IsRefusedRightly {S : Type 0} (g : Ghosts S) (config : Config) (stores : List S)
    (text : List ℕ) (refused : Unstarted S)
    : Type 0 where
  pub reason : IsStartRefusal g config stores text refused
  pub cause : HasCauseFor g config stores text refused

-- so it is, unless the host has no seed: then the stores come back as they are
abbrev pub IsNotStarted : {S : Type 0} (g : Ghosts S) → Config → (stores : List S)
    → (text : List ℕ) → NotStarted S → Type 0
IsNotStarted g config stores text (nots.Host why back) = back.items ≡ stores
IsNotStarted g config stores text (nots.Refused refused) =
    IsRefusedRightly g config stores text refused

-- why a start is refused whose text isn't read
abbrev pub unread_as : HistoryError → StopFault
unread_as errors.Memory = faults.Memory
unread_as errors.BadHistory = faults.BadHistory
