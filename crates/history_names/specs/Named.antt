-- What a start takes the text of a history for by the names that are kept beside it
-- (docs/FORMATS.md, Names file).
use Rattle.std.specs.Prelude.{◌≡◌, ◌⊎◌, ℕ, Bool, true, false, List, [], ◌∷◌, Option, None, Some}
use Rattle.std.specs.Prelude.{flat_map, option_map}
use Rattle.history_names.specs.Changes.{changes_of, ended}
use Rattle.history_names.specs.declared.reading.NamedText.{NamedText}
use Rattle.id_history.specs.History.{Kept, history_octets}
use Rattle.id_history.specs.Reading.{all_of}
use Rattle.named_history.specs.Naming.{is_of, named}
use Rattle.relay_conf.specs.declared.settings.Config.{Config}
use Rattle.relay_core.specs.Desks.{setting_of}
use Rattle.relay_names.specs.Names.{Names, Told, names_at, names_in}
use Rattle.relay_names.specs.Text.{told_of}
use Rattle.relay_names.specs.Views.{names_view}
use Rattle.relay_report.specs.declared.fault.ServeError.{ServeError}
use Rattle.relay_report.specs.declared.fault.ServeError.TheVariants as faults
use Rattle.relay_report.specs.declared.keeping.HistoryFault.TheVariants as causes
use Rattle.relay_report.specs.declared.keeping.StartFault.TheVariants as starts

-- WHAT A TEXT IS BY NAME

-- what the text of a history is by name
pub data NamedBy : Type 0 where
  -- a start goes by this text; and of the history that was read these names are known, if any are
  As : (text : List ℕ) → (known : Option Names) → NamedBy
  -- what is kept beside it is no text of names, or its names can't be those of the history
  BadNames : NamedBy

-- the text of a history whose names are known, as a relay of this configuration has it
abbrev pub text_for : Config → (known : Names) → Kept → List ℕ
text_for config known kept =
    history_octets (named known (names_in config) (setting_of config).rings kept)

-- by these names, if they can be those of the history
abbrev pub named_if : (fits : Bool) → Config → (known : Names) → Kept → NamedBy
named_if false config known kept = BadNames
named_if true config known kept = As (text_for config known kept) (Some known)

-- by names that are known
abbrev pub named_known : Config → (known : Names) → Kept → NamedBy
named_known config known kept = named_if (is_of known kept) config known kept

-- What a text of names tells of the history of a stop, where it is one: names, or nothing. An empty
-- one tells nothing.
abbrev pub told_at : (names : List ℕ) → (stop : ℕ) → Option (Option Names)
told_at [] stop = Some None
told_at (octet ∷ octets) stop =
    option_map (λ told. names_at told stop) (told_of (octet ∷ octets))

-- by what the text of names tells of the history, if it is one
abbrev pub named_told : Config → Option (Option Names) → (text : List ℕ) → Kept → NamedBy
named_told config None text kept = BadNames
named_told config (Some None) text kept = As text None
named_told config (Some (Some known)) text kept = named_known config known kept

-- the same of what the text of the history is read as, none where it is no history
abbrev pub named_read : Config → (names : Option (List ℕ)) → (text : List ℕ) → Option Kept
    → NamedBy
named_read config names text None = As text None
named_read config None text (Some kept) = As text None
named_read config (Some names) text (Some kept) =
    named_told config (told_at names kept.stop) text kept

-- What the text of a history is by name, where this is kept as the text of names, None where none
-- is. Where that is missing or empty, or tells nothing of the history's stop, it is as it stands.
abbrev pub named_by : Config → (names : Option (List ℕ)) → (text : List ℕ) → NamedBy
named_by config names text = named_read config names text (all_of text)

-- WHAT THE CALLS ANSWER

-- a start goes by what a text is by name
abbrev pub IsAs : NamedBy → NamedText → Type 0
IsAs by result = by ≡ As result.text.items (option_map names_view result.known)

-- so it is with the text of a history, where this is kept as the text of names
abbrev pub IsNamed : Config → (names : Option (List ℕ)) → (text : List ℕ) → NamedText → Type 0
IsNamed config names text result = IsAs (named_by config names text) result

-- what has changed by name is told of a history whose names are known, and of no other
abbrev pub changes_in : Config → Option Kept → (known : Option Names) → List (List ℕ)
changes_in config None known = []
changes_in config (Some kept) None = []
changes_in config (Some kept) (Some known) =
    changes_of known (names_in config) (setting_of config).rings kept

-- what has changed by name is told in these lines, each with its end
abbrev pub TellsChanged : Config → Option Kept → NamedText → Type 0
TellsChanged config read result =
    result.changes.items
    ≡ flat_map ended (changes_in config read (option_map names_view result.known))

-- so it is with what the text of a history is read as
abbrev pub TellsChanges : Config → (text : List ℕ) → NamedText → Type 0
TellsChanges config text result = TellsChanged config (all_of text) result

-- the error says that there is no history only for its names, and where these are none
abbrev pub TellsBad : NamedBy → ServeError → Type 0
TellsBad by (faults.Start (starts.BadHistory cause)) = (cause ≡ causes.Names) × (by ≡ BadNames)
TellsBad by error = Unit {0}

-- so it is with the text of a history, where this is kept as the text of names
abbrev pub TellsNames : Config → (names : Option (List ℕ)) → (text : List ℕ) → ServeError → Type 0
TellsNames config names text error = TellsBad (named_by config names text) error

-- what a start keeps as the text of names, over a history of this stop with these names, if any are
-- known: these, and from the next stop on those of the configuration
abbrev pub told_in : Config → (stop : ℕ) → (known : Option Names) → Told
told_in config stop known = record { stop = stop; last = known; later = names_in config }

-- memory was refused, or the text of names can't be read or not be kept
abbrev pub IsNamesFault : ServeError → Type 0
IsNamesFault error = (error ≡ faults.Memory) ⊎ (error ≡ faults.Start starts.Names)

-- so it is, or the history is none by its names
abbrev pub IsNamedFault : ServeError → Type 0
IsNamedFault error =
    IsNamesFault error ⊎ (error ≡ faults.Start (starts.BadHistory causes.Names))

-- memory was refused, or the history is none by its names, and then this is so
abbrev pub IsNoneOr : (is : Type 0) → ServeError → Type 0
IsNoneOr is error =
    (error ≡ faults.Memory) ⊎ ((error ≡ faults.Start (starts.BadHistory causes.Names)) × is)
