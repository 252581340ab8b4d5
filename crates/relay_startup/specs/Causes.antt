-- Why there is no history of a relay of the configuration (docs/FORMATS.md, History file).
use Rattle.std.specs.Prelude.{◌≡◌, ℕ, ◌==◌, ◌&&◌, Bool, true, false, List, [], ◌∷◌, length, map}
use Rattle.std.specs.Prelude.{Option, None, Some, Result, Ok, Err}
use Rattle.id_history.specs.Conditions.{are_positions, feeds_hold, ids_hold, rise}
use Rattle.id_history.specs.History.{Kept, KeptFeed, Setting}
use Rattle.id_history.specs.Reading.{all_of}
use Rattle.relay_conf.specs.declared.settings.Config.{Config}
use Rattle.relay_core.specs.Desks.{setting_of}
use Rattle.relay_folder.specs.declared.origin.Origin.{Origin}
use Rattle.relay_folder.specs.declared.origin.Origin.TheVariants as origins
use Rattle.relay_report.specs.declared.fault.ServeError.{ServeError}
use Rattle.relay_report.specs.declared.fault.ServeError.TheVariants as faults
use Rattle.relay_report.specs.declared.keeping.HistoryFault.{HistoryFault}
use Rattle.relay_report.specs.declared.keeping.HistoryFault.TheVariants.{Missing, Text, Groups}
use Rattle.relay_report.specs.declared.keeping.HistoryFault.TheVariants.{Feeds, Ring, Buffers}
use Rattle.relay_report.specs.declared.keeping.StartFault.TheVariants as starts
use Rattle.relay_startup.specs.StopNumbers.{IsStopIn}

-- the ring with which a feed can have come to this, if any is: it holds what waits
abbrev pub own_ring : KeptFeed → ℕ
own_ring feed = length feed.waiting

-- those of feeds
abbrev pub own_rings : List KeptFeed → List ℕ
own_rings feeds = map own_ring feeds

-- a relay can have stopped so, whatever it was configured as: with its own rings, and with as many
-- buffers as tokens can name
abbrev pub is_of_some : Kept → Bool
is_of_some kept =
    feeds_hold 256 kept.feeds (own_rings kept.feeds) && ids_hold 256 kept.ids && rise kept.ids

-- each token of a history names a buffer
abbrev pub names_buffers : Setting → Kept → Bool
names_buffers setting kept =
    feeds_hold setting.buffers kept.feeds setting.rings && ids_hold setting.buffers kept.ids

-- the cause where the condition doesn't hold, else what comes next
abbrev pub unless : Bool → HistoryFault → (next : Option HistoryFault) → Option HistoryFault
unless true cause next = next
unless false cause next = Some cause

-- Why a history isn't one of a relay with this setting, none where it is: the first of these causes
-- that there is.
abbrev pub unfit : Setting → Kept → Option HistoryFault
unfit setting kept =
    unless (is_of_some kept) Text
    (unless (are_positions kept.positions setting.groups) Groups
    (unless (length kept.feeds == length setting.rings) Feeds
    (unless (feeds_hold 256 kept.feeds setting.rings) Ring
    (unless (names_buffers setting kept) Buffers None))))

-- the same of what a text is read as
abbrev pub unfit_read : Setting → Option Kept → Option HistoryFault
unfit_read setting None = Some Text
unfit_read setting (Some kept) = unfit setting kept

-- Why what is kept is no history of a relay of this configuration, none where it is one. Where
-- nothing is kept, or an empty text, it is missing, whatever the buffers say.
abbrev pub cause_of : Config → (kept : Option (List ℕ)) → Option HistoryFault
cause_of config None = Some Missing
cause_of config (Some []) = Some Missing
cause_of config (Some (octet ∷ octets)) =
    unfit_read (setting_of config) (all_of (octet ∷ octets))

-- an error that says that there is no history of a relay of the configuration tells the cause
abbrev pub TellsCause : Config → (kept : Option (List ℕ)) → ServeError → Type 0
TellsCause config kept (faults.Start (starts.BadHistory cause)) = cause_of config kept ≡ Some cause
TellsCause config kept error = Unit {0}

-- so it is with what a relay is to begin from; from nothing none is told
abbrev pub TellsCauseBegun : Config → Origin → ServeError → Type 0
TellsCauseBegun config origins.Formatted error = Unit {0}
TellsCauseBegun config (origins.Stopped text) error = TellsCause config (Some text.items) error

-- a text is a history of the configuration, of this stop, and has no cause; or it has this one
abbrev pub HasStopOrCause : Config → (text : List ℕ) → Result ℕ HistoryFault → Type 0
HasStopOrCause config text (Ok stop) =
    IsStopIn config text stop × (cause_of config (Some text) ≡ None)
HasStopOrCause config text (Err cause) = cause_of config (Some text) ≡ Some cause
