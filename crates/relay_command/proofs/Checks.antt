-- What is told where a configuration has an error.
use Rattle.std.proofs.Common.{inl, inr, ℕ, List, Option, None, Some, refl, Result, Ok, Err}
use Rattle.std.specs.Io.KnownBytes.{Keeps}
use Rattle.relay_conf.specs.declared.faults.ConfError.{ConfError}
use Rattle.relay_conf.specs.declared.faults.ConfError.TheVariants as errors
use Rattle.relay_conf.specs.RelayViews.{RelayGives}
use Rattle.relay_conf.specs.declared.settings.Config.{Config}
use Rattle.relay_command.specs.Adding.{Standing}
use Rattle.relay_command.specs.Check.{CycbuffReads, StorageReads, Fails, HasError, IsUnchecked}
use Rattle.relay_command.specs.Check.{IsErrorIn, IsIn}
use Rattle.relay_command.specs.Check.{in_cycbuff, in_storage, in_relay}
use Rattle.relay_command.specs.Run.{ChecksFolder, TellsConfig}
use Rattle.relay_command.specs.declared.failure.Failure.{Failure}
use Rattle.relay_command.specs.declared.failure.Failure.TheVariants as failures
use Rattle.relay_command.specs.declared.load.CheckError.{CheckError}
use Rattle.relay_command.specs.declared.load.CheckError.TheVariants.{Memory, Unreadable, Faulty}
use Rattle.relay_command.specs.declared.load.CheckError.TheVariants.{Unwritten}
use Rattle.relay_command.specs.declared.load.ConfFile.{ConfFile}
use Rattle.relay_command.specs.declared.load.ConfFile.TheVariants as files

-- A reader's fault is not the writer's.
not_written : (file : ConfFile) (fault : ConfError) → IsErrorIn file fault Unwritten → ⊥
not_written file errors.Memory e = cc
not_written file (errors.Faulty at) e = e

-- No file fails as the writer does.
no_file_fails_so : {T : Type 0} (folder : List ℕ) (file : ConfFile)
    (reads : Result T ConfError → List (List ℕ) → Type 0) → Fails folder file reads Unwritten → ⊥
no_file_fails_so folder file reads fails = elim fails [
  | inl unread ↦ elim unread [
    | inl memory ↦ cc
    | inr unreadable ↦ cc (unreadable.0)
  ]
  | inr read ↦ not_written file read.1 read.4
]

-- An error of a configuration is not the writer's.
pub never_unwritten : (folder : List ℕ) → HasError folder Unwritten → ⊥
never_unwritten folder (in_cycbuff fails) = no_file_fails_so folder files.Cycbuff CycbuffReads fails
never_unwritten folder (in_storage buffers said fails) =
    no_file_fails_so folder files.Storage (StorageReads buffers) fails
never_unwritten folder (in_relay buffers storage_entries said stored fails) =
    no_file_fails_so folder files.Relay RelayGives fails

-- A writer that isn't called holds what it held.
pub keeps_same : (held : Option (List ℕ)) → Keeps held held
keeps_same None = tt
keeps_same (Some xs) = refl

-- Where a configuration has an error, that is told and nothing is written.
pub error_is_told : (folder : List ℕ) (error : CheckError) (held : Option (List ℕ))
    → HasError folder error → IsUnchecked error folder held held
error_is_told folder Memory held has = keeps_same held
error_is_told folder (Unreadable file) held has = (has, keeps_same held)
error_is_told folder (Faulty file line code name) held has = (has, keeps_same held)
error_is_told folder Unwritten held has = absurd (never_unwritten folder has)

-- A configuration that was told, with how its relay stands, is that of its folder.
pub told_in : (standing : Standing) (config : Config) (folder : List ℕ)
    (result : Result (Unit {0}) Failure) (before after : Option (List ℕ)) → IsIn folder config
    → TellsConfig standing config folder result before after
    → ChecksFolder standing folder result before after
told_in standing config folder (Ok done) before after is told = (config, is, told)
told_in standing config folder (Err (failures.Serve error)) before after is told =
    (config, is, told)
told_in standing config folder (Err (failures.Check Unwritten)) before after is told =
    (config, is, told)
told_in standing config folder (Err (failures.Check Memory)) before after is told = absurd told
told_in standing config folder (Err (failures.Check (Unreadable file))) before after is told =
    absurd told
told_in standing config folder (Err (failures.Check (Faulty file line code name))) before after is
    told =
    absurd told
told_in standing config folder (Err (failures.Unbegun unbegun)) before after is told = absurd told
told_in standing config folder (Err (failures.Words error)) before after is told = absurd told
told_in standing config folder (Err failures.Clash) before after is told = absurd told
told_in standing config folder (Err (failures.Explain unexplained)) before after is told =
    absurd told
told_in standing config folder (Err (failures.Drill error)) before after is told = absurd told
told_in standing config folder (Err (failures.Token fault)) before after is told = absurd told
told_in standing config folder (Err (failures.Ask error)) before after is told = absurd told
told_in standing config folder (Err failures.Unwritten) before after is told = absurd told
