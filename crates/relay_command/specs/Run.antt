-- What a run of the program does (docs/PROTOCOL.md, Program).
use Rattle.std.specs.Prelude.{◌≡◌, ◌≢◌, ◌⊎◌, ℕ, Bool, List, codes, Option, Some, Result, Ok, Err}
use Rattle.std.specs.Io.KnownBytes.{Appends, Keeps}
use Rattle.clap.specs.Words.{Text}
use Rattle.relay_conf.specs.declared.settings.Config.{Config}
use Rattle.relay_drill.specs.Drill.{DrillGives}
use Rattle.relay_drill.specs.declared.fault.DrillError.{DrillError}
use Rattle.relay_command.specs.Adding.{Adding, Standing}
use Rattle.relay_command.specs.Ask.{Asking, AsksIn, ReloadsIn}
use Rattle.relay_command.specs.Check.{HasError, IsIn, IsUnchecked, counted}
use Rattle.relay_command.specs.CommandLine.{Asked, Drills, Checks, Explains, Tells, Serves}
use Rattle.relay_command.specs.CommandLine.{Adds, Stops, Reports, Pauses, Goes, Reloads}
use Rattle.relay_command.specs.CommandLine.{Clashes, IsAskedBy}
use Rattle.relay_command.specs.Explain.{ExplainsFolder}
use Rattle.relay_command.specs.Files.{CannotBeRead}
use Rattle.relay_command.specs.Help.{AreAtFault, GivesFront, GivesHelp}
use Rattle.relay_command.specs.Serving.{LivesGive, Serving}
use Rattle.relay_command.specs.Tell.{TellGives}
use Rattle.relay_command.specs.declared.ask.AskError.{AskError}
use Rattle.relay_command.specs.declared.ask.Form.{Form}
use Rattle.relay_command.specs.declared.ask.Form.TheVariants.{Told}
use Rattle.relay_command.specs.declared.ask.Request.{Request}
use Rattle.relay_command.specs.declared.ask.Request.TheVariants.{Stop, Report, Pause, Go}
use Rattle.relay_command.specs.declared.failure.Failure.{Failure}
use Rattle.relay_command.specs.declared.failure.Failure.TheVariants.{Words, Check, Drill, Serve}
use Rattle.relay_command.specs.declared.failure.Failure.TheVariants.{Token, Ask, Clash, Unwritten}
use Rattle.relay_command.specs.declared.load.CheckError.TheVariants as check
use Rattle.relay_adding.specs.Telling.{AddGives}
use Rattle.relay_report.specs.Written.{GainsFront}
use Rattle.relay_report.specs.declared.fault.ServeError.{ServeError}

-- what a script of this name answers with a configuration, where reasons are told or aren't;
-- `input` is what standard input has
pub data DrillsScript (config : Config) (script : List ℕ) (reasons : Bool)
    (result : Result (Unit {0}) DrillError) (input before after : Option (List ℕ)) : Type 0 where
  -- the script is standard input, and was drilled
  of_input : script ≡ codes "stdin" → DrillGives reasons config result input before after
      → DrillsScript config script reasons result input before after
  -- it is a file, and the text that it gave was drilled; nothing says what a file holds
  of_file : script ≢ codes "stdin" → (text : List ℕ)
      → DrillGives reasons config result (Some text) before after
      → DrillsScript config script reasons result input before after
  -- it is a file that can't be read, or memory ran out before it was, and nothing was written
  of_none : script ≢ codes "stdin" → (error : DrillError) → CannotBeRead error
      → result ≡ Err error → Keeps before after
      → DrillsScript config script reasons result input before after

-- what a drill with the configuration in a folder answers
abbrev pub DrillsIn : (folder script : List ℕ) (reasons : Bool) → Result (Unit {0}) DrillError
    → (input before after : Option (List ℕ)) → Type 0
DrillsIn folder script reasons result input before after =
    (config : Config) × IsIn folder config
    × DrillsScript config script reasons result input before after

-- a drill with the configuration in a folder is done, or failed so; where the configuration is at
-- fault, nothing was written
abbrev pub DrillsFolder : (folder script : List ℕ) (reasons : Bool) → Result (Unit {0}) Failure
    → (input before after : Option (List ℕ)) → Type 0
DrillsFolder folder script reasons (Ok done) input before after =
    DrillsIn folder script reasons (Ok done) input before after
DrillsFolder folder script reasons (Err (Drill error)) input before after =
    DrillsIn folder script reasons (Err error) input before after
DrillsFolder folder script reasons (Err (Check error)) input before after =
    HasError folder error × Keeps before after
DrillsFolder folder script reasons (Err failure) input before after = ⊥

-- how much a configuration has was told, and behind it how the relay of the folder stands
pub record TellsStanding (standing : Standing) (config : Config) (folder : List ℕ)
    (result : Result (Unit {0}) ServeError) (before after : Option (List ℕ))
    : Type 0 where
  pub between : Option (List ℕ)
  pub told : Appends before between (counted config)
  pub stands : standing config folder result between after

-- so it is with the configuration in the folder
abbrev pub ChecksIn : Standing → (folder : List ℕ) → Result (Unit {0}) ServeError
    → (before after : Option (List ℕ)) → Type 0
ChecksIn standing folder result before after =
    (config : Config) × IsIn folder config
    × TellsStanding standing config folder result before after

-- the configuration in a folder was told, and how its relay stands, or that failed so; where the
-- configuration wasn't told nobody looked at the relay
abbrev pub ChecksFolder : Standing → (folder : List ℕ) → Result (Unit {0}) Failure
    → (before after : Option (List ℕ)) → Type 0
ChecksFolder standing folder (Ok done) before after =
    ChecksIn standing folder (Ok done) before after
ChecksFolder standing folder (Err (Serve error)) before after =
    ChecksIn standing folder (Err error) before after
ChecksFolder standing folder (Err (Check error)) before after =
    IsUnchecked error folder before after
ChecksFolder standing folder (Err failure) before after = ⊥

-- what this text of a token stands for was told, or that failed so
abbrev pub TellsText : (text : List ℕ) → Result (Unit {0}) Failure
    → (before after : Option (List ℕ)) → Type 0
TellsText text (Ok done) before after = TellGives (Ok done) text before after
TellsText text (Err (Token fault)) before after = TellGives (Err fault) text before after
TellsText text (Err failure) before after = ⊥

-- What serving a relay with the configuration in a folder answers: what came is what serving comes
-- to with that configuration, that folder, that number of connections and whether all is formatted,
-- and what lives of a relay give, the first with that configuration, each other with it or with one
-- that the folder had later.
abbrev pub ServesIn : Serving → (folder : List ℕ) (sessions : Option ℕ) (fresh : Bool)
    → Result (Unit {0}) ServeError → (before after : Option (List ℕ)) → Type 0
ServesIn serving folder sessions fresh result before after =
    (config : Config) × IsIn folder config
    × serving config folder sessions fresh result before after
    × LivesGive (IsIn folder) config result before after

-- what was to be served with the configuration in a folder was, or failed so; where the
-- configuration is at fault, nothing was served or written
abbrev pub ServesFolder : Serving → (folder : List ℕ) (sessions : Option ℕ) (fresh : Bool)
    → Result (Unit {0}) Failure → (before after : Option (List ℕ)) → Type 0
ServesFolder serving folder sessions fresh (Ok done) before after =
    ServesIn serving folder sessions fresh (Ok done) before after
ServesFolder serving folder sessions fresh (Err (Serve error)) before after =
    ServesIn serving folder sessions fresh (Err error) before after
ServesFolder serving folder sessions fresh (Err (Check error)) before after =
    HasError folder error × Keeps before after
ServesFolder serving folder sessions fresh (Err failure) before after = ⊥

-- What adding the buffers answers that the configuration in a folder has behind the others: what
-- came is what adding comes to with that configuration and that folder, and what adding buffers of
-- the configuration gives.
abbrev pub AddsIn : Adding → (folder : List ℕ) → Result (Unit {0}) ServeError
    → (before after : Option (List ℕ)) → Type 0
AddsIn adding folder result before after =
    (config : Config) × IsIn folder config × adding config folder result before after
    × AddGives config result before after

-- what was to be added with the configuration in a folder was, or failed so; where the
-- configuration is at fault, nothing was added or written
abbrev pub AddsFolder : Adding → (folder : List ℕ) → Result (Unit {0}) Failure
    → (before after : Option (List ℕ)) → Type 0
AddsFolder adding folder (Ok done) before after = AddsIn adding folder (Ok done) before after
AddsFolder adding folder (Err (Serve error)) before after =
    AddsIn adding folder (Err error) before after
AddsFolder adding folder (Err (Check error)) before after =
    HasError folder error × Keeps before after
AddsFolder adding folder (Err failure) before after = ⊥

-- what the relay of a folder was asked for it told, and that was printed in this form, or that
-- failed so; no configuration is read
abbrev pub AsksFolder : Asking → (folder : List ℕ) → Request → Form → Result (Unit {0}) Failure
    → (before after : Option (List ℕ)) → Type 0
AsksFolder asking folder request form (Ok done) before after =
    AsksIn asking folder request form (Ok done) before after
AsksFolder asking folder request form (Err (Ask error)) before after =
    AsksIn asking folder request form (Err error) before after
AsksFolder asking folder request form (Err failure) before after = ⊥

-- what asking the relay of a folder to reload answers, where a configuration is in the folder
abbrev pub ReloadsFrom : Asking → (folder : List ℕ) → Result (Unit {0}) AskError
    → (before after : Option (List ℕ)) → Type 0
ReloadsFrom asking folder result before after =
    (config : Config) × IsIn folder config × ReloadsIn asking folder result before after

-- the relay of a folder was asked to reload, told what came of it and did, or that failed so; where
-- the configuration in the folder is at fault, nothing was asked or written
abbrev pub ReloadsFolder : Asking → (folder : List ℕ) → Result (Unit {0}) Failure
    → (before after : Option (List ℕ)) → Type 0
ReloadsFolder asking folder (Ok done) before after =
    ReloadsFrom asking folder (Ok done) before after
ReloadsFolder asking folder (Err (Ask error)) before after =
    ReloadsFrom asking folder (Err error) before after
ReloadsFolder asking folder (Err (Check error)) before after =
    HasError folder error × Keeps before after
ReloadsFolder asking folder (Err failure) before after = ⊥

-- that two forms were asked for was told, and nothing was asked or written
abbrev pub RefusesClash : Result (Unit {0}) Failure → (before after : Option (List ℕ)) → Type 0
RefusesClash (Ok done) before after = ⊥
RefusesClash (Err Clash) before after = Keeps before after
RefusesClash (Err failure) before after = ⊥

-- what was asked for is done, or failed with a failure of its own; only a drill reads standard
-- input
abbrev pub Performs : Serving → Adding → Standing → Asking → Asked → Result (Unit {0}) Failure
    → (input before after : Option (List ℕ)) → Type 0
Performs serving adding standing asking (Drills folder script reasons) result input before after =
    DrillsFolder folder script reasons result input before after
Performs serving adding standing asking (Checks folder) result input before after =
    ChecksFolder standing folder result before after
Performs serving adding standing asking (Explains folder question) result input before after =
    ExplainsFolder folder question result before after
Performs serving adding standing asking (Tells text) result input before after =
    TellsText text result before after
Performs serving adding standing asking (Serves folder sessions fresh) result input before after =
    ServesFolder serving folder sessions fresh result before after
Performs serving adding standing asking (Stops folder) result input before after =
    AsksFolder asking folder Stop Told result before after
Performs serving adding standing asking (Reports folder form) result input before after =
    AsksFolder asking folder Report form result before after
Performs serving adding standing asking (Pauses folder) result input before after =
    AsksFolder asking folder Pause Told result before after
Performs serving adding standing asking (Goes folder) result input before after =
    AsksFolder asking folder Go Told result before after
Performs serving adding standing asking (Reloads folder) result input before after =
    ReloadsFolder asking folder result before after
Performs serving adding standing asking Clashes result input before after =
    RefusesClash result before after
Performs serving adding standing asking (Adds folder) result input before after =
    AddsFolder adding folder result before after

-- what the words ask for is done, or failed with a failure of its own
abbrev pub DoesAsked : Serving → Adding → Standing → Asking → List Text → Result (Unit {0}) Failure
    → (input before after : Option (List ℕ)) → Type 0
DoesAsked serving adding standing asking words result input before after =
    (asked : Asked) × IsAskedBy words asked
    × Performs serving adding standing asking asked result input before after

-- What the words ask for is done or failed. Where they ask for help or the version, that was
-- written, or a front of it. Where they are at fault nothing was written.
abbrev pub RunGives : Serving → Adding → Standing → Asking → List Text → Result (Unit {0}) Failure
    → (input before after : Option (List ℕ)) → Type 0
RunGives serving adding standing asking words (Ok done) input before after =
    DoesAsked serving adding standing asking words (Ok done) input before after
    ⊎ GivesHelp words before after
RunGives serving adding standing asking words (Err Unwritten) input before after =
    GivesFront words before after
RunGives serving adding standing asking words (Err (Words error)) input before after =
    AreAtFault words error × Keeps before after
RunGives serving adding standing asking words result input before after =
    DoesAsked serving adding standing asking words result input before after

-- STEP BY STEP

-- so this configuration was told with how the relay of a folder stands, or that failed so
abbrev pub TellsConfig : Standing → Config → (folder : List ℕ) → Result (Unit {0}) Failure
    → (before after : Option (List ℕ)) → Type 0
TellsConfig standing config folder (Ok done) before after =
    TellsStanding standing config folder (Ok done) before after
TellsConfig standing config folder (Err (Serve error)) before after =
    TellsStanding standing config folder (Err error) before after
TellsConfig standing config folder (Err (Check check.Unwritten)) before after =
    GainsFront (counted config) before after
TellsConfig standing config folder (Err failure) before after = ⊥
