-- The number of the stop that a relay goes on from (docs/PROTOCOL.md, Clean stop and start).
use Rattle.std.specs.Prelude.{◌≡◌, ◌⊎◌, ℕ, List, Option, Some, None}
use Rattle.id_history.specs.History.{Kept}
use Rattle.id_history.specs.declared.fault.HistoryError.{HistoryError}
use Rattle.id_history.specs.declared.fault.HistoryError.TheVariants as errors
use Rattle.relay_conf.specs.declared.settings.Config.{Config}
use Rattle.relay_core.specs.Desks.{Reads}
use Rattle.relay_folder.specs.declared.origin.Origin.{Origin}
use Rattle.relay_folder.specs.declared.origin.Origin.TheVariants as origins
use Rattle.relay_report.specs.declared.fault.ServeError.{ServeError}
use Rattle.relay_report.specs.declared.fault.ServeError.TheVariants as faults
use Rattle.relay_report.specs.declared.keeping.HistoryFault.TheVariants.{Text}
use Rattle.relay_report.specs.declared.keeping.StartFault.TheVariants as starts

-- a relay of the configuration can have stopped with this text, and this is the number of that stop
pub record IsStopIn (config : Config) (text : List ℕ) (stop : ℕ) : Type 0 where
  pub kept : Kept
  pub reads : Reads config text kept
  pub stop_is : kept.stop ≡ stop

-- so it is with what is kept
abbrev pub IsStopOf : Config → Option (List ℕ) → (stop : ℕ) → Type 0
IsStopOf config None stop = ⊥
IsStopOf config (Some text) stop = IsStopIn config text stop

-- a relay that begins from this goes on from the stop of this number, from nothing from 0
abbrev pub IsStopBegun : Config → Origin → (stop : ℕ) → Type 0
IsStopBegun config origins.Formatted stop = stop ≡ 0
IsStopBegun config (origins.Stopped text) stop = IsStopIn config text.items stop

-- the error says that there is no history of a relay of the configuration only where that is so
abbrev pub TellsNone : Config → Option (List ℕ) → ServeError → Type 0
TellsNone config kept (faults.Start (starts.BadHistory cause)) =
    (stop : ℕ) → IsStopOf config kept stop → ⊥
TellsNone config kept error = Unit {0}

-- Why a text isn't read as a history that was read as one before, or was made of one: memory was
-- refused. It is always one; if it were none any more, that would be told as any other text.
abbrev pub no_history_as : HistoryError → ServeError
no_history_as errors.Memory = faults.Memory
no_history_as errors.BadHistory = faults.Start (starts.BadHistory Text)

-- there is no history of this configuration
abbrev pub IsBadHistory : ServeError → Type 0
IsBadHistory (faults.Start (starts.BadHistory cause)) = Unit {0}
IsBadHistory error = ⊥

-- memory was refused, or the history can't be had, or is none of this configuration
abbrev pub IsHistoryFault : ServeError → Type 0
IsHistoryFault error =
    (error ≡ faults.Memory) ⊎ ((error ≡ faults.Start starts.History) ⊎ IsBadHistory error)
