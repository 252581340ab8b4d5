-- What is told of a configuration (docs/PROTOCOL.md, Program; docs/FORMATS.md, Configuration).
use Rattle.std.specs.Prelude.{◌≡◌, ◌≢◌, ◌⊎◌, ℕ, List, ◌++◌, codes, decimal, vec_len, Option}
use Rattle.std.specs.Prelude.{Result, Ok, Err}
use Rattle.std.specs.Global.{Vec}
use Rattle.std.specs.Io.KnownBytes.{Keeps}
use Rattle.relay_conf.specs.Cycbuff.{cycbuff_of}
use Rattle.relay_conf.specs.Faults.{ConfGives, code_of, name_of}
use Rattle.relay_conf.specs.Lines.{lines_of}
use Rattle.relay_conf.specs.RelayViews.{RelayGives}
use Rattle.relay_conf.specs.Settings.{buffers_view}
use Rattle.relay_conf.specs.StorageViews.{StorageGives}
use Rattle.relay_conf.specs.declared.settings.Config.{Config}
use Rattle.relay_conf.specs.declared.config.TheConstants.{K1_CYCBUFF, K1_STORAGE, K1_RELAY}
use Rattle.relay_conf.specs.declared.settings.Buffers.{Buffers}
use Rattle.relay_conf.specs.declared.faults.ConfError.{ConfError}
use Rattle.relay_conf.specs.declared.faults.ConfError.TheVariants as errors
use Rattle.relay_conf.specs.declared.settings.StorageEntry.{StorageEntry}
use Rattle.relay_report.specs.Written.{GainsFront}
use Rattle.relay_drill.specs.declared.fault.DrillError.{DrillError}
use Rattle.relay_drill.specs.declared.fault.DrillError.TheVariants as drill
use Rattle.relay_command.specs.declared.load.CheckError.{CheckError}
use Rattle.relay_command.specs.declared.load.CheckError.TheVariants.{Memory, Unreadable, Faulty}
use Rattle.relay_command.specs.declared.load.CheckError.TheVariants.{Unwritten}
use Rattle.relay_command.specs.declared.load.ConfFile.{ConfFile}
use Rattle.relay_command.specs.declared.load.ConfFile.TheVariants as files

-- the bare name of a file
abbrev pub file_name : ConfFile → List ℕ
file_name files.Cycbuff = codes "cycbuff.conf"
file_name files.Storage = codes "storage.conf"
file_name files.Relay = codes "relay.conf"

-- the text of an error, without the line's end
abbrev pub check_text : CheckError → List ℕ
check_text Memory = codes "out of memory"
check_text (Unreadable file) = file_name file ++ codes ": unreadable"
check_text (Faulty file line code name) =
    file_name file ++ codes ":" ++ decimal line ++ codes ": " ++ decimal code ++ codes " "
    ++ name.now
check_text Unwritten = codes "stdout: unwritten"

-- the text of a file of the built-in configuration
abbrev pub k1_text : ConfFile → List ℕ
k1_text files.Cycbuff = K1_CYCBUFF.now
k1_text files.Storage = K1_STORAGE.now
k1_text files.Relay = K1_RELAY.now

-- the folder K1 has the built-in texts; of any other nothing says what its files hold
abbrev pub IsTextOf : (folder : List ℕ) → ConfFile → (text : List ℕ) → Type 0
IsTextOf folder file text = folder ≡ codes "K1" → text ≡ k1_text file

-- the error says that memory ran out, or that the file can't be read, which the built-in ones
-- always can
abbrev pub IsUnread : (folder : List ℕ) → ConfFile → CheckError → Type 0
IsUnread folder file error = (error ≡ Memory) ⊎ ((error ≡ Unreadable file) × (folder ≢ codes "K1"))

-- the answer is a text of a file of a folder, or why there is none
abbrev pub TextGives : (folder : List ℕ) → ConfFile → Result (Vec ℕ) CheckError → Type 0
TextGives folder file (Ok text) = IsTextOf folder file text.items
TextGives folder file (Err error) = IsUnread folder file error

-- why what a file has can't be had: memory ran out, or it can't be read (docs/PROTOCOL.md,
-- Statuses)
abbrev pub unread_as : ConfFile → DrillError → CheckError
unread_as file drill.Memory = Memory
unread_as file error = Unreadable file

-- the error says that the reading of this text gave this fault, or that memory ran out
abbrev pub IsErrorIn : ConfFile → ConfError → CheckError → Type 0
IsErrorIn file errors.Memory error = error ≡ Memory
IsErrorIn file (errors.Faulty at) Memory = ⊥
IsErrorIn file (errors.Faulty at) (Unreadable other) = ⊥
IsErrorIn file (errors.Faulty at) (Faulty other line code name) =
    (other ≡ file) × (line ≡ at.line) × (code ≡ code_of at.fault) × (name.now ≡ name_of at.fault)
IsErrorIn file (errors.Faulty at) Unwritten = ⊥

-- a file of a folder has a text of which a reader gives these settings
abbrev pub Says : {T : Type 0} → (folder : List ℕ) → ConfFile
    → (reads : Result T ConfError → (lines : List (List ℕ)) → Type 0) → T → Type 0
Says folder file reads settings =
    (text : List ℕ) × IsTextOf folder file text × reads (Ok settings) (lines_of text)

-- a file of a folder can't be read, or has a text of which a reader gives this fault
abbrev pub Fails : {T : Type 0} → (folder : List ℕ) → ConfFile
    → (reads : Result T ConfError → (lines : List (List ℕ)) → Type 0) → CheckError → Type 0
Fails folder file reads error =
    IsUnread folder file error
    ⊎ ((text : List ℕ) × (fault : ConfError) × IsTextOf folder file text
    × reads (Err fault) (lines_of text) × IsErrorIn file fault error)

-- what the reader of cycbuff.conf gives of lines
abbrev pub CycbuffReads : Result Buffers ConfError → (lines : List (List ℕ)) → Type 0
CycbuffReads result lines = ConfGives buffers_view result (cycbuff_of lines)

-- what the reader of storage.conf gives of lines, over these buffers
abbrev pub StorageReads : Buffers → Result (Vec StorageEntry) ConfError
    → (lines : List (List ℕ)) → Type 0
StorageReads buffers result lines = StorageGives result (buffers_view buffers).groups lines

-- the configuration is what the three files of a folder say
pub record IsIn (folder : List ℕ) (config : Config) : Type 0 where
  pub cycbuff : Says folder files.Cycbuff CycbuffReads config.buffers
  pub storage : Says folder files.Storage (StorageReads config.buffers) config.storage_entries
  pub relay : Says folder files.Relay RelayGives config.relay

-- the first of the three files of a folder that is at fault has this error
pub data HasError (folder : List ℕ) (error : CheckError) : Type 0 where
  in_cycbuff : Fails folder files.Cycbuff CycbuffReads error → HasError folder error
  in_storage : (buffers : Buffers) → Says folder files.Cycbuff CycbuffReads buffers
      → Fails folder files.Storage (StorageReads buffers) error → HasError folder error
  in_relay : (buffers : Buffers) (storage_entries : Vec StorageEntry)
      → Says folder files.Cycbuff CycbuffReads buffers
      → Says folder files.Storage (StorageReads buffers) storage_entries
      → Fails folder files.Relay RelayGives error → HasError folder error

-- the answer is the configuration in a folder, or its error
abbrev pub LoadGives : (folder : List ℕ) → Result Config CheckError → Type 0
LoadGives folder (Ok config) = IsIn folder config
LoadGives folder (Err error) = HasError folder error

-- how much a configuration has, in one line:
-- `ok: 1 buffers, 1 groups, 1 classes, 2 peers, 1 feeds`
abbrev pub counted : Config → List ℕ
counted config =
    codes "ok: "
    ++ decimal (vec_len config.buffers.buffers) ++ codes " buffers, "
    ++ decimal (vec_len config.buffers.groups) ++ codes " groups, "
    ++ decimal (vec_len config.storage_entries) ++ codes " classes, "
    ++ decimal (vec_len config.relay.peers) ++ codes " peers, "
    ++ decimal (vec_len config.relay.feeds) ++ codes " feeds\n"

-- why the configuration in a folder wasn't told: memory ran out or it has an error, and then
-- nothing was written; or it has none and the writer failed, with a front of what is told
abbrev pub IsUnchecked : CheckError → (folder : List ℕ) → (before after : Option (List ℕ))
    → Type 0
IsUnchecked Memory folder before after = Keeps before after
IsUnchecked (Unreadable file) folder before after =
    HasError folder (Unreadable file) × Keeps before after
IsUnchecked (Faulty file line code name) folder before after =
    HasError folder (Faulty file line code name) × Keeps before after
IsUnchecked Unwritten folder before after =
    (config : Config) × IsIn folder config × GainsFront (counted config) before after
