-- How the relay of a folder stands, of which `check` tells (docs/PROTOCOL.md, `check`).
use Rattle.std.specs.Prelude.{◌≡◌, ◌≢◌, ◌⊎◌, ◌++◌, ℕ, Bool, true, false, List, [], codes, Option}
use Rattle.std.specs.Prelude.{Result, Ok, Err}
use Rattle.std.specs.Io.KnownBytes.{Appends, Keeps}
use Rattle.cyc_block.specs.declared.store.BlockStore.{Ghosts}
use Rattle.history_names.specs.Named.{NamedBy, As, BadNames, named_by}
use Rattle.relay_conf.specs.declared.settings.Config.{Config}
use Rattle.first_start.specs.Completing.{IsCutShort}
use Rattle.relay_folder.specs.Origin.{Beginning, Formats, Starts, begins_from}
use Rattle.relay_report.specs.Keeping.{start_text}
use Rattle.relay_report.specs.Serve.{NamesBuffer, NamesFault}
use Rattle.relay_report.specs.Written.{GainsFront}
use Rattle.relay_report.specs.declared.fault.ServeError.{ServeError}
use Rattle.relay_report.specs.declared.fault.ServeError.TheVariants as faults
use Rattle.relay_report.specs.declared.keeping.StartFault.{StartFault}
use Rattle.relay_startup.specs.Unstopped.{IsUnstoppedBy}
use Rattle.relay_check.specs.declared.standing.FolderStanding.{FolderStanding}
use Rattle.relay_check.specs.declared.standing.FolderStanding.TheVariants as standings

-- how it stands, in words
abbrev pub standing_words : FolderStanding → List ℕ
standing_words standings.Running = codes "running"
standing_words standings.Unbegun = codes "nothing kept yet: a start begins"
standing_words standings.Stopped = codes "stopped"
standing_words standings.Unstopped = codes "not stopped: a start repairs it"

-- the line of it
abbrev pub standing_line : FolderStanding → List ℕ
standing_line standing = codes "relay: " ++ (standing_words standing ++ codes "\n")

-- So stands a relay that isn't running and that a start doesn't begin from nothing, by the text of
-- its history and its stores: it was stopped where each head says that, of a history that is kept,
-- and it wasn't where one of them says that; without a history its first start may have been cut
-- short, and nothing was kept then.
abbrev pub IsStandingOf : {S : Type 0} → Ghosts S → Config → (text : List ℕ) → (stores : List S)
    → FolderStanding → Type 0
IsStandingOf g config text stores standings.Running = ⊥
IsStandingOf g config text stores standings.Unbegun = (text ≡ []) × IsCutShort g stores
IsStandingOf g config text stores standings.Stopped =
    (text ≢ []) × IsUnstoppedBy g config text stores false
IsStandingOf g config text stores standings.Unstopped = IsUnstoppedBy g config text stores true

-- so it stands by what the text of its history is by name
abbrev pub IsStandingNamed : {S : Type 0} → Ghosts S → Config → NamedBy → (stores : List S)
    → FolderStanding → Type 0
IsStandingNamed g config (As taken known) stores standing =
    IsStandingOf g config taken stores standing
IsStandingNamed g config BadNames stores standing = ⊥

-- So stands a relay that isn't running, by the names that are kept, what a start would begin from,
-- and its stores: nothing was kept where it would begin from nothing.
abbrev pub IsStandingBy : {S : Type 0} → Ghosts S → Config → (names : Option (List ℕ)) → Beginning
    → (stores : List S) → FolderStanding → Type 0
IsStandingBy g config names Formats stores standing = standing ≡ standings.Unbegun
IsStandingBy g config names (Starts text) stores standing =
    IsStandingNamed g config (named_by config names text) stores standing

-- so it stands by whether no buffer was kept in any file, the names and the history that are kept,
-- and its stores
abbrev pub IsStanding : {S : Type 0} → Ghosts S → Config → (blank : Bool)
    → (names kept : Option (List ℕ)) → (stores : List S) → FolderStanding → Type 0
IsStanding g config blank names kept stores standing =
    IsStandingBy g config names (begins_from false blank kept) stores standing

-- what a start would change by name is told before it, a line each
abbrev pub standing_text : (changes : List ℕ) → FolderStanding → List ℕ
standing_text changes standing = changes ++ standing_line standing

-- that a start would be refused, and why, in the words of that
abbrev pub refusal_line : StartFault → List ℕ
refusal_line fault = codes "would not start: " ++ (start_text fault ++ codes "\n")

-- that a start would be refused for this fault was told in a line, and is the answer; or memory was
-- refused for the line, and nothing was written; or the writer failed, with a front of it
abbrev pub TellsRefusal : StartFault → ServeError → (before after : Option (List ℕ)) → Type 0
TellsRefusal fault (faults.Start told) before after =
    (told ≡ fault) × Appends before after (refusal_line fault)
TellsRefusal fault faults.Memory before after = Keeps before after
TellsRefusal fault faults.Unwritten before after = GainsFront (refusal_line fault) before after
TellsRefusal fault error before after = ⊥

-- so it is where the failure is that a start would be refused; of any other nothing is written
abbrev pub TellsFailure : ServeError → (told : ServeError) → (before after : Option (List ℕ))
    → Type 0
TellsFailure (faults.Start fault) told before after = TellsRefusal fault told before after
TellsFailure error told before after = (told ≡ error) × Keeps before after

-- how the relay of the configuration stands was told, behind what a start would change by name; or
-- that a start would be refused, which is the answer then; or it isn't known, and nothing was
-- written; or the writer failed, with a front of one of both
abbrev pub StandGives : Config → Result (Unit {0}) ServeError → (before after : Option (List ℕ))
    → Type 0
StandGives config (Ok done) before after =
    (changes : List ℕ) × (standing : FolderStanding)
    × Appends before after (standing_text changes standing)
StandGives config (Err (faults.Start fault)) before after =
    NamesBuffer config fault × Appends before after (refusal_line fault)
StandGives config (Err faults.Unwritten) before after =
    ((changes : List ℕ) × (standing : FolderStanding)
    × GainsFront (standing_text changes standing) before after)
    ⊎ ((fault : StartFault) × NamesBuffer config fault
    × GainsFront (refusal_line fault) before after)
StandGives config (Err error) before after = NamesFault config error × Keeps before after
