-- What is told of what a configuration does (docs/PROTOCOL.md, `explain`).
use Rattle.std.specs.Prelude.{◌≡◌, ◌⊎◌, ◌==◌, ℕ, List, ◌++◌, codes, decimal, length, Option}
use Rattle.std.specs.Prelude.{None, Some, Result, Ok, Err, if◌then◌else◌}
use Rattle.std.specs.Io.KnownBytes.{Appends, Keeps}
use Rattle.relay_conf.specs.declared.settings.Config.{Config}
use Rattle.relay_report.specs.Written.{GainsFront}
use Rattle.relay_explain.specs.Choice.{choice_text}
use Rattle.relay_explain.specs.Explained.{explained}
use Rattle.relay_explain.specs.declared.found.Found.{Found}
use Rattle.relay_explain.specs.declared.whole.Sources.{Sources}
use Rattle.relay_command.specs.Check.{HasError, file_name}
use Rattle.relay_command.specs.Questions.{Asking}
use Rattle.relay_command.specs.Sources.{IsSaidIn}
use Rattle.relay_command.specs.declared.failure.Failure.{Failure}
use Rattle.relay_command.specs.declared.failure.Failure.TheVariants.{Explain}
use Rattle.relay_command.specs.declared.load.CheckError.{CheckError}
use Rattle.relay_command.specs.declared.load.CheckError.TheVariants.{Memory, Unreadable, Faulty}
use Rattle.relay_command.specs.declared.load.CheckError.TheVariants.{Unwritten}
use Rattle.relay_command.specs.declared.load.ConfFile.{ConfFile}
use Rattle.relay_command.specs.declared.load.ConfFile.TheVariants as files

-- The text is what this configuration does, which these texts say, with what lay where the files of
-- its buffers are to be, in their order. Nothing says what lies anywhere.
pub record IsToldOf (config : Config) (sources : Sources) (text : List ℕ) : Type 0 where
  pub found : List Found
  pub each : length found ≡ length config.buffers.buffers.items
  pub told : text ≡ explained config sources found

-- The text is what a configuration that the folder's files say does; or where an article goes by
-- it, where that is asked.
pub record IsTold (folder : List ℕ) (text : List ℕ) : Type 0 where
  pub config : Config
  pub sources : Sources
  pub said : IsSaidIn folder config sources
  pub told : IsToldOf config sources text

-- The text is where an article goes by the configuration that the folder's files say.
pub record IsChosen (folder : List ℕ) (question : Asking) (text : List ℕ) : Type 0 where
  pub config : Config
  pub sources : Sources
  pub said : IsSaidIn folder config sources
  pub told : text ≡ choice_text config question.newsgroups question.size

-- the text answers what is asked of the configuration in a folder
abbrev pub IsAnswer : (folder : List ℕ) → Option Asking → (text : List ℕ) → Type 0
IsAnswer folder None text = IsTold folder text
IsAnswer folder (Some question) text = IsChosen folder question text

-- memory ran out, or the configuration in the folder has this error
abbrev pub IsUntold : (folder : List ℕ) → CheckError → Type 0
IsUntold folder error = (error ≡ Memory) ⊎ HasError folder error

-- a name that stands for nothing, in words, by the file that has it
abbrev pub unknown_words : ConfFile → List ℕ
unknown_words files.Cycbuff = codes "a buffer that no cycbuff line makes"
unknown_words files.Storage =
    codes "a group that no metacycbuff line makes, or a method that isn't served: cnfs alone is"
unknown_words files.Relay = codes "a peer that no peer line makes"

-- a fault of a file in words, by its code (docs/FORMATS.md, Configuration)
abbrev pub fault_words : ConfFile → (code : ℕ) → List ℕ
fault_words file code =
    if code == 1 then codes "the line has no form of its file, or something lacks"
    else if code == 2 then codes "a first word or a key that the file doesn't know"
    else if code == 3 then codes "a name or a key for the second time"
    else if code == 4 then unknown_words file
    else if code == 5 then codes "no number, one out of its range, or one line too many of its kind"
    else if code == 6 then codes "an expression over newsgroups that can't be read"
    else if code == 7 then codes "a buffer in two groups, or twice in one"
    else codes "a group without a buffer, or no group at all"

-- the text of an error, without the end of its last line: what `check` tells, and below it the
-- fault in words
abbrev pub explain_text : CheckError → List ℕ
explain_text Memory = codes "out of memory"
explain_text (Unreadable file) =
    file_name file
    ++ codes ": unreadable\nthere is no such file in the folder, or it can't be read"
explain_text (Faulty file line code name) =
    file_name file ++ codes ":" ++ decimal line ++ codes ": " ++ decimal code ++ codes " "
    ++ name.now ++ codes "\n" ++ fault_words file code
explain_text Unwritten = codes "stdout: unwritten"

-- the answer is that what is asked of the configuration in the folder was told, or the error of
-- that, and then nothing was written; or it has none and the writer failed, with a front of what is
-- told
abbrev pub ExplainGives : Result (Unit {0}) CheckError → (folder : List ℕ) → Option Asking
    → (before after : Option (List ℕ)) → Type 0
ExplainGives (Ok done) folder question before after =
    (text : List ℕ) × IsAnswer folder question text × Appends before after text
ExplainGives (Err Memory) folder question before after = Keeps before after
ExplainGives (Err (Unreadable file)) folder question before after =
    HasError folder (Unreadable file) × Keeps before after
ExplainGives (Err (Faulty file line code name)) folder question before after =
    HasError folder (Faulty file line code name) × Keeps before after
ExplainGives (Err Unwritten) folder question before after =
    (text : List ℕ) × IsAnswer folder question text × GainsFront text before after

-- what is asked of the configuration in a folder is told, or that failed so
abbrev pub ExplainsFolder : (folder : List ℕ) → Option Asking → Result (Unit {0}) Failure
    → (before after : Option (List ℕ)) → Type 0
ExplainsFolder folder question (Ok done) before after =
    ExplainGives (Ok done) folder question before after
ExplainsFolder folder question (Err (Explain unexplained)) before after =
    ExplainGives (Err unexplained.error) folder question before after
ExplainsFolder folder question (Err failure) before after = ⊥
