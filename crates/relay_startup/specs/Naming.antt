-- A relay goes on from what was left of it by the names of its configuration (docs/FORMATS.md,
-- Names file).
use Rattle.std.specs.Prelude.{◌≡◌, ◌⊎◌, ◌∷◌, ℕ, List, [], Option, None, Some, flat_map}
use Rattle.history_names.specs.Changes.{ended}
use Rattle.history_names.specs.Named.{NamedBy, As, BadNames, changes_in, named_by, told_in}
use Rattle.id_history.specs.Reading.{all_of}
use Rattle.relay_conf.specs.declared.settings.Config.{Config}
use Rattle.relay_folder.specs.Keeping.{IsAsBefore, IsNotKept}
use Rattle.relay_folder.specs.declared.history_place.HistoryPlace.{Ghosts}
use Rattle.relay_names.specs.Names.{Names}
use Rattle.relay_names.specs.Text.{told_octets}
use Rattle.relay_report.specs.declared.fault.ServeError.{ServeError}
use Rattle.relay_report.specs.declared.fault.ServeError.TheVariants as faults
use Rattle.relay_report.specs.declared.keeping.HistoryFault.{HistoryFault}
use Rattle.relay_report.specs.declared.keeping.HistoryFault.TheVariants as causes
use Rattle.relay_report.specs.declared.keeping.StartFault.TheVariants as starts
use Rattle.relay_startup.specs.StopNumbers.{IsHistoryFault, IsStopOf}
use Rattle.relay_startup.specs.Causes.{cause_of}
use Rattle.relay_startup.specs.Unstopped.{IsLastStop, kept_text}

-- WHAT IS TOLD OF NAMES

-- These names are kept for good: those that are known of the history of this stop, if any are, and
-- for each later one those of the configuration.
pub record AreTold {N : Type 0} (n : Ghosts N) (config : Config) (stop : ℕ)
    (known : Option Names) (old new : N)
    : Type 0 where
  pub kept : n.honest old → n.kept new ≡ Some (told_octets (told_in config stop known))
  pub lasts : n.honest old → n.lasting new ≡ Some (told_octets (told_in config stop known)) ∷ []

-- A text of a history is gone on with as this one: as the names that were kept have it, and those
-- of the configuration are kept now for each later stop.
pub record IsTakenByName {N : Type 0} (n : Ghosts N) (config : Config) (text taken : List ℕ)
    (old new : N)
    : Type 0 where
  pub known : Option Names
  pub named : n.honest old → named_by config (n.kept old) text ≡ As taken known
  pub stop : ℕ
  pub last : IsLastStop config (kept_text taken) stop
  pub told : AreTold n config stop known old new

-- these names, of one stop or another, couldn't be kept, or all is as before
abbrev pub MayBeUntold : {N : Type 0} → Ghosts N → Config → (old new : N) → Type 0
MayBeUntold n config old new =
    IsAsBefore n old new
    ⊎ ((stop : ℕ) × (known : Option Names)
    × IsNotKept n (told_octets (told_in config stop known)) old new)

-- What is left of the names where a relay isn't gone on with: all is as before, unless they
-- couldn't be kept.
abbrev pub LeavesNames : {N : Type 0} → Ghosts N → Config → (old new : N) → ServeError → Type 0
LeavesNames n config old new faults.Memory = MayBeUntold n config old new
LeavesNames n config old new (faults.Start starts.Names) = MayBeUntold n config old new
LeavesNames n config old new error = IsAsBefore n old new

-- the names that are known of what a text is by name
abbrev pub known_in : NamedBy → Option Names
known_in (As taken known) = known
known_in BadNames = None

-- WHY THERE IS NO HISTORY BY NAME

-- the cause of what a text is by name
abbrev pub cause_named : Config → NamedBy → Option HistoryFault
cause_named config (As taken known) = cause_of config (Some taken)
cause_named config BadNames = Some causes.Names

-- Why what is kept is no history of a relay of this configuration by the names that are kept beside
-- it, none where it is one.
abbrev pub cause_by_name : Config → (names kept : Option (List ℕ)) → Option HistoryFault
cause_by_name config names None = cause_of config None
cause_by_name config names (Some text) = cause_named config (named_by config names text)

-- an error that says that there is no history of a relay of the configuration tells this cause
abbrev pub TellsNamedCause : Config → (names kept : Option (List ℕ)) → ServeError → Type 0
TellsNamedCause config names kept (faults.Start (starts.BadHistory cause)) =
    cause_by_name config names kept ≡ Some cause
TellsNamedCause config names kept error = Unit {0}

-- WHAT IS TOLD OF CHANGES

-- these are the lines of what a start would change in what a text is by name, each with its end
abbrev pub TellsChangesOf : Config → (names : Option (List ℕ)) → (text : List ℕ)
    → (changes : List ℕ) → Type 0
TellsChangesOf config names text changes =
    changes
    ≡ flat_map ended (changes_in config (all_of text) (known_in (named_by config names text)))

-- THE STOP BY NAME

-- a relay of the configuration can have stopped with what a text is by name, at the stop of this
-- number
abbrev pub IsStopNamed : Config → NamedBy → (stop : ℕ) → Type 0
IsStopNamed config (As taken known) stop = IsStopOf config (Some taken) stop
IsStopNamed config BadNames stop = ⊥

-- so it is with what is kept, by the names that are kept beside it
abbrev pub IsStopByName : Config → (names kept : Option (List ℕ)) → (stop : ℕ) → Type 0
IsStopByName config names None stop = ⊥
IsStopByName config names (Some text) stop = IsStopNamed config (named_by config names text) stop

-- the error says that there is no history of a relay of the configuration only where that is so
abbrev pub TellsNoneByName : Config → (names kept : Option (List ℕ)) → ServeError → Type 0
TellsNoneByName config names kept (faults.Start (starts.BadHistory cause)) =
    (stop : ℕ) → IsStopByName config names kept stop → ⊥
TellsNoneByName config names kept error = Unit {0}

-- memory was refused, or the history or the names can't be had, or it is no history of this
-- configuration
abbrev pub IsNamedHistoryFault : ServeError → Type 0
IsNamedHistoryFault error = IsHistoryFault error ⊎ (error ≡ faults.Start starts.Names)
