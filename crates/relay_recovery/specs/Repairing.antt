-- What a relay goes on from that is not begun from nothing (docs/PROTOCOL.md, Crashes: the relay).
use Rattle.std.specs.Prelude.{◌≡◌, ◌⊎◌, ℕ, true, false, List, Option, None, map}
use Rattle.std.specs.Global.{Vec}
use Rattle.block_shelf.specs.Each.{AreEach}
use Rattle.block_shelf.specs.Starting.{IsUnwritten}
use Rattle.cyc_block.specs.Heads.{head_view}
use Rattle.cyc_block.specs.declared.head.HeadNumbers.{HeadNumbers}
use Rattle.cyc_block.specs.declared.store.BlockStore.{Ghosts}
use Rattle.relay_conf.specs.declared.settings.Config.{Config}
use Rattle.relay_core.specs.declared.stopped.Stopped.{Stopped}
use Rattle.relay_folder.specs.declared.history_place.HistoryPlace as places
use Rattle.relay_folder.specs.declared.origin.Origin.{Origin}
use Rattle.relay_folder.specs.declared.origin.Origin.TheVariants as origins
use Rattle.relay_journal.specs.Reading.{IsJournalRead}
use Rattle.relay_journal.specs.declared.lines.JournalLines as lines
use Rattle.relay_journal.specs.declared.lines.ToldJournal.{ToldJournal}
use Rattle.relay_repair.specs.Repairing.{Repairs}
use Rattle.relay_recovery.specs.declared.places.HistoryPlaces.{HistoryPlaces}
use Rattle.relay_startup.specs.Keeping.{IsKeptAs}
use Rattle.relay_startup.specs.LastHistory.{IsLastWith}
use Rattle.relay_startup.specs.Naming.{AreTold, IsTakenByName}
use Rattle.relay_startup.specs.Recovered.{IsHeadIn}
use Rattle.buffer_files.specs.Synced.{IsUncalled}
use Rattle.relay_startup.specs.Unsaved.{IsWithoutUnsaved}
use Rattle.relay_startup.specs.Unstopped.{IsUnstoppedBy, kept_text}

-- stores and history are those that a repair of these stores gives; the devices have since been
-- had take what it wrote
pub record IsOfRepair {S : Type 0} (g : Ghosts S) (config : Config) (text : List ℕ)
    (stores : List S) (stopped : Stopped S)
    : Type 0 where
  pub now : ℕ
  pub back : List S
  pub repairs : Repairs g config stores (kept_text text) now back stopped.history.items
  pub uncalled : AreEach (IsUncalled g) back stopped.stores.items

-- The stores are those that a repair gives that goes by the last history with its journal folded
-- in, and so is the history, without the ids that the crash has cost their articles, of which the
-- journal alone has told.
pub record IsKeptOfRepair {S : Type 0} (g : Ghosts S) (config : Config) (text last : List ℕ)
    (stores : List S) (stopped : Stopped S)
    : Type 0 where
  pub found : Vec ℕ
  pub repaired : IsOfRepair g config last stores
      (record { stores = stopped.stores; history = found })
  pub wrote : List S
  pub unwritten : AreEach (IsUnwritten g None) wrote repaired.back
  pub heads : List HeadNumbers
  pub are : AreEach (IsHeadIn g) wrote heads
  pub left : IsWithoutUnsaved config text last (map head_view heads) found.items
      stopped.history.items

-- so they are of a repair that goes by this text of the last history, and its journal
pub record IsOfRepairWith {S P L : Type 0} (g : Ghosts S) (p : places.Ghosts P)
    (l : lines.Ghosts L) (config : Config) (text : List ℕ) (stores : List S)
    (stopped : Stopped S) (before after : ToldJournal P L)
    : Type 0 where
  pub read : Option (List ℕ)
  pub is_read : IsJournalRead p l read before after
  pub last : List ℕ
  pub folded : IsLastWith config text read last
  pub repaired : IsKeptOfRepair g config text last stores stopped

-- What was left of a relay is gone on with as it is, unwritten, where it was stopped, and its
-- journal isn't read; where it wasn't, with what a repair of it gives, which is kept.
abbrev pub GoesOnFrom : {S H P L : Type 0} → (is_synced : S → Type 0) → Ghosts S
    → places.Ghosts H → places.Ghosts P → lines.Ghosts L → Config → (left stopped : Stopped S)
    → (old new : H) → (before after : ToldJournal P L) → Type 0
GoesOnFrom is_synced g h p l config left stopped old new before after =
    (IsUnstoppedBy g config left.history.items left.stores.items false
    × (stopped.history ≡ left.history)
    × AreEach (IsUnwritten g None) left.stores.items stopped.stores.items × (new ≡ old)
    × (after ≡ before))
    ⊎ (IsUnstoppedBy g config left.history.items left.stores.items true
    × IsOfRepairWith g p l config left.history.items left.stores.items stopped before after
    × IsKeptAs is_synced h stopped.history.items stopped.stores.items old new)

-- what a relay begins over, as what was left of one
abbrev pub left_of : {S : Type 0} → Vec S → Vec ℕ → Stopped S
left_of stores text = record { stores = stores; history = text }

-- What was left of a relay is gone on with by the names of its configuration, which are kept for
-- each later stop.
pub record GoesOnNamed {S H N P L : Type 0} (is_synced : S → Type 0) (g : Ghosts S)
    (h : places.Ghosts H) (n : places.Ghosts N) (p : places.Ghosts P) (l : lines.Ghosts L)
    (config : Config) (left stopped : Stopped S) (old new : HistoryPlaces H N)
    (before after : ToldJournal P L)
    : Type 0 where
  pub taken : Vec ℕ
  pub by_name : IsTakenByName n config left.history.items taken.items old.names new.names
  pub goes : GoesOnFrom is_synced g h p l config (left_of left.stores taken) stopped old.history
      new.history before after

-- So a relay goes on that is not begun from nothing. One that is has nothing to go on from, and its
-- names are kept for each stop.
abbrev pub GoesOn : {S H N P L : Type 0} → (is_synced : S → Type 0) → Ghosts S → places.Ghosts H
    → places.Ghosts N → places.Ghosts P → lines.Ghosts L → Config → (from to : Origin)
    → (stores back : Vec S) → (old new : HistoryPlaces H N) → (before after : ToldJournal P L)
    → Type 0
GoesOn is_synced g h n p l config origins.Formatted to stores back old new before after =
    (to ≡ origins.Formatted) × (back ≡ stores) × (new.history ≡ old.history)
    × AreTold n config 0 None old.names new.names × (after ≡ before)
GoesOn is_synced g h n p l config (origins.Stopped text) origins.Formatted stores back old new
    before after =
    ⊥
GoesOn is_synced g h n p l config (origins.Stopped text) (origins.Stopped kept) stores back old new
    before after =
    GoesOnNamed is_synced g h n p l config (left_of stores text) (left_of back kept) old new before
    after
