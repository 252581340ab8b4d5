-- A configuration with the texts of its files (docs/PROTOCOL.md, `explain`).
use Rattle.std.specs.Prelude.{◌≡◌, ℕ, List, Result, Ok, Err}
use Rattle.std.specs.Global.{Vec}
use Rattle.relay_conf.specs.Lines.{lines_of}
use Rattle.relay_conf.specs.RelayViews.{RelayGives}
use Rattle.relay_conf.specs.declared.faults.ConfError.{ConfError}
use Rattle.relay_conf.specs.declared.settings.Config.{Config}
use Rattle.relay_explain.specs.declared.whole.Sources.{Sources}
use Rattle.relay_command.specs.Check.{CycbuffReads, Fails, HasError, IsErrorIn, IsTextOf}
use Rattle.relay_command.specs.Check.{StorageReads}
use Rattle.relay_command.specs.declared.load.CheckError.{CheckError}
use Rattle.relay_command.specs.declared.load.ConfFile.{ConfFile}
use Rattle.relay_command.specs.declared.load.ConfFile.TheVariants as files

-- a text is of a file of a folder, and a reader gives these settings of it
abbrev pub SaysBy : {T : Type 0} → (folder : List ℕ) → ConfFile
    → (reads : Result T ConfError → (lines : List (List ℕ)) → Type 0) → T → (text : List ℕ)
    → Type 0
SaysBy folder file reads settings text =
    IsTextOf folder file text × reads (Ok settings) (lines_of text)

-- the answer is what a reader gives of a file of a folder, with the text of that
abbrev pub FileGivesBoth : {T : Type 0} → (folder : List ℕ) → ConfFile
    → (reads : Result T ConfError → (lines : List (List ℕ)) → Type 0)
    → Result (T × Vec ℕ) CheckError → Type 0
FileGivesBoth folder file reads (Ok both) = SaysBy folder file reads both.0 both.1.items
FileGivesBoth folder file reads (Err error) = Fails folder file reads error

-- what was read of the text of a file is had with that text, or its fault is that of the file
abbrev pub IsReadAs : {T : Type 0} → ConfFile → (text : Vec ℕ) → (read : Result T ConfError)
    → Result (T × Vec ℕ) CheckError → Type 0
IsReadAs file text (Ok settings) (Ok both) = (both.0 ≡ settings) × (both.1 ≡ text)
IsReadAs file text (Ok settings) (Err error) = ⊥
IsReadAs file text (Err fault) (Ok both) = ⊥
IsReadAs file text (Err fault) (Err error) = IsErrorIn file fault error

-- the configuration is what these texts say, and they are of the three files of a folder
pub record IsSaidIn (folder : List ℕ) (config : Config) (sources : Sources) : Type 0 where
  pub cycbuff : SaysBy folder files.Cycbuff CycbuffReads config.buffers sources.cycbuff.items
  pub storage : SaysBy folder files.Storage (StorageReads config.buffers) config.storage_entries
      sources.storage.items
  pub relay : SaysBy folder files.Relay RelayGives config.relay sources.relay.items

-- the answer is the configuration in a folder with its texts, or its error
abbrev pub LoadGivesBoth : (folder : List ℕ) → Result (Config × Sources) CheckError → Type 0
LoadGivesBoth folder (Ok both) = IsSaidIn folder both.0 both.1
LoadGivesBoth folder (Err error) = HasError folder error
