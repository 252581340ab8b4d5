-- What the program's words ask for (docs/PROTOCOL.md, Commands), by what clap states of them.
use Rattle.std.specs.Prelude.{◌≡◌, ◌⊎◌, ◌&&◌, ℕ, Bool, true, false, List, [], Option, Some, None}
use Rattle.std.specs.Prelude.{Result, Ok, Err, unwrap_or, codes, string_bytes, if◌then◌else◌}
use Rattle.std.specs.Prelude.{option_and_then, pos}
use Rattle.std.specs.Str.{bytes_eq}
use Rattle.clap.specs.Words.{App, app_of, Row, Rule, Text, first_of, new_app, new_rule, one_of}
use Rattle.clap.specs.Words.{subcommand_of, with_rule, with_subcommand}
use Rattle.clap.specs.Words.{IsAmong, fault_of, kind_of}
use Rattle.clap.specs.declared.builder.Command.{Command}
use Rattle.clap.specs.declared.builder.Command.TheViews.{out-Command as fields_of}
use Rattle.clap.specs.declared.builder.ArgAction.TheVariants.{Set, SetTrue}
use Rattle.clap.specs.declared.builder.ValueParser.TheVariants.{Signed}
use Rattle.clap.specs.declared.error.Error.{Error}
use Rattle.clap.specs.declared.error.kind.ErrorKind.{ErrorKind}
use Rattle.clap.specs.declared.error.kind.ErrorKind.TheVariants.{OutOfMemory}
use Rattle.relay_command.specs.Numbers.{number_of}
use Rattle.relay_command.specs.Questions.{Asking, question_given, question_of}
use Rattle.relay_command.specs.Questions as questions
use Rattle.relay_command.specs.declared.ask.Form.{Form}
use Rattle.relay_command.specs.declared.ask.Form.TheVariants.{Metrics, Page, Told}
use Rattle.relay_command.specs.declared.command_line.Job.{Job}
use Rattle.relay_command.specs.declared.command_line.Job.TheVariants as jobs

-- what the words ask for
pub data Asked : Type 0 where
  -- to run a script with the configuration in a folder, and tell the reasons for which articles are
  -- refused or not
  Drills : (folder script : List ℕ) (reasons : Bool) → Asked
  -- to read the configuration in a folder
  Checks : (folder : List ℕ) → Asked
  -- to say what the configuration in a folder does, or where an article goes by it
  Explains : (folder : List ℕ) (question : Option Asking) → Asked
  -- to tell the parts of a token
  Tells : (text : List ℕ) → Asked
  -- to serve the configuration in a folder on its ports: each until it has served so many
  -- connections, or until the relay is told to stop; from its files, or with all buffers formatted
  Serves : (folder : List ℕ) (sessions : Option ℕ) (fresh : Bool) → Asked
  -- to have the relay end that is served in a folder
  Stops : (folder : List ℕ) → Asked
  -- to print the report of the relay that is served in a folder, in this form
  Reports : (folder : List ℕ) (form : Form) → Asked
  -- to have the relay that is served in a folder take no new articles for now
  Pauses : (folder : List ℕ) → Asked
  -- to have it take them again
  Goes : (folder : List ℕ) → Asked
  -- to have the relay that is served in a folder go on with the configuration there
  Reloads : (folder : List ℕ) → Asked
  -- to print a report in two forms, which isn't done
  Clashes : Asked
  -- to make the files of the buffers that the configuration in a folder has behind those of the
  -- relay that was stopped there
  Adds : (folder : List ℕ) → Asked

-- a job as the words ask for it
abbrev pub asked : Job → Asked
asked (jobs.Drill folder script reasons) =
    Drills (string_bytes folder) (string_bytes script) reasons
asked (jobs.Check folder) = Checks (string_bytes folder)
asked (jobs.Explain folder question) = Explains (string_bytes folder) (question_of question)
asked (jobs.Token text) = Tells (string_bytes text)
asked (jobs.Serve folder sessions fresh) = Serves (string_bytes folder) sessions fresh
asked (jobs.Stop folder) = Stops (string_bytes folder)
asked (jobs.Report folder form) = Reports (string_bytes folder) form
asked (jobs.Pause folder) = Pauses (string_bytes folder)
asked (jobs.Go folder) = Goes (string_bytes folder)
asked (jobs.Reload folder) = Reloads (string_bytes folder)
asked jobs.Clash = Clashes
asked (jobs.Add folder) = Adds (string_bytes folder)

-- a word that has to be there
abbrev pub needed : Text → Rule
needed name = record (new_rule name) { required = true; action = Some Set }

-- `add-buffer DIR`
abbrev pub add_words : App
add_words = with_rule (new_app (codes "add-buffer")) (needed (codes "DIR"))

-- `check DIR`
abbrev pub check_words : App
check_words = with_rule (new_app (codes "check")) (needed (codes "DIR"))

-- a word of this name that has no value and may be left out
abbrev pub flag_rule : Text → Rule
flag_rule name = record (new_rule name) { long = Some name; action = Some SetTrue }

-- `drill DIR SCRIPT [--reasons]`
abbrev pub drill_words : App
drill_words =
    with_rule (with_rule (with_rule (new_app (codes "drill")) (needed (codes "DIR")))
    (needed (codes "SCRIPT"))) (flag_rule (codes "reasons"))

-- `explain DIR [NEWSGROUPS] [SIZE]`
abbrev pub explain_words : App
explain_words = questions.explain_words (needed (codes "DIR"))

-- `go DIR`
abbrev pub go_words : App
go_words = with_rule (new_app (codes "go")) (needed (codes "DIR"))

-- `pause DIR`
abbrev pub pause_words : App
pause_words = with_rule (new_app (codes "pause")) (needed (codes "DIR"))

-- `reload DIR`
abbrev pub reload_words : App
reload_words = with_rule (new_app (codes "reload")) (needed (codes "DIR"))

-- `report DIR [--openmetrics] [--html]`
abbrev pub report_words : App
report_words =
    with_rule (with_rule (with_rule (new_app (codes "report")) (needed (codes "DIR")))
    (flag_rule (codes "openmetrics"))) (flag_rule (codes "html"))

-- `--sessions N`, a number of 1 to 1,000,000 that may be left out
abbrev pub sessions_rule : Rule
sessions_rule = record (new_rule (codes "sessions")) {
  long = Some (codes "sessions");
  value_names = 1;
  parser = Some (Signed (pos 1) (pos 1000000));
  action = Some Set;
}

-- `--fresh`, which has no value and may be left out
abbrev pub fresh_rule : Rule
fresh_rule = flag_rule (codes "fresh")

-- `serve DIR [--sessions N] [--fresh]`
abbrev pub serve_words : App
serve_words =
    with_rule (with_rule (with_rule (new_app (codes "serve")) (needed (codes "DIR")))
    sessions_rule) fresh_rule

-- `stop DIR`
abbrev pub stop_words : App
stop_words = with_rule (new_app (codes "stop")) (needed (codes "DIR"))

-- `token TEXT`
abbrev pub token_words : App
token_words = with_rule (new_app (codes "token")) (needed (codes "TEXT"))

-- `--version`, `-V`
abbrev pub version_words : App
version_words =
    record { top = record (new_app (codes "cnrelay")).top { has_version = true }; subs = [] }

-- the words of what is done with a configuration alone, which no relay serves
abbrev pub unserved_words : App
unserved_words =
    with_subcommand (with_subcommand (with_subcommand (with_subcommand version_words
    add_words.top) check_words.top) drill_words.top) explain_words.top

-- these, and the words by which a relay that is served is told to pause, to go on, and to go on
-- with the configuration as it is now
abbrev pub changing_words : App
changing_words =
    with_subcommand (with_subcommand (with_subcommand unserved_words go_words.top)
    pause_words.top) reload_words.top

-- the words that there are
abbrev pub program_words : App
program_words =
    with_subcommand (with_subcommand (with_subcommand (with_subcommand changing_words
    report_words.top) serve_words.top) stop_words.top) token_words.top

-- the command reads these words, and has no argument that counts below it too
pub record Reads (command : Command) (app : App) : Type 0 where
  pub words : app_of command ≡ app
  pub own : (fields_of command).has_globals ≡ false

-- the word given for a name, empty where there is none
abbrev pub word_given : Text → List Row → List ℕ
word_given name rows = unwrap_or (first_of name rows) []

-- the number given for `--sessions`, where there is one
abbrev pub sessions_given : List Row → Option ℕ
sessions_given rows = option_and_then number_of (one_of (codes "sessions") rows)

-- whether a word without a value is given, which stands for `true` then, as clap has it
abbrev pub flag_given : Text → List Row → Bool
flag_given name rows = bytes_eq (word_given name rows) (codes "true")

-- whether `--fresh` is given
abbrev pub fresh_given : List Row → Bool
fresh_given rows = flag_given (codes "fresh") rows

-- the form in which the report is printed: as metrics where `--openmetrics` is given, as a page
-- where `--html` is, else as it is told
abbrev pub form_given : List Row → Form
form_given rows =
    if flag_given (codes "openmetrics") rows then Metrics
    else if flag_given (codes "html") rows then Page
    else Told

-- whether two forms are given
abbrev pub two_given : List Row → Bool
two_given rows = flag_given (codes "openmetrics") rows && flag_given (codes "html") rows

-- what `report` asks of a folder, with what is given for its other names
abbrev pub reports_in : (folder : List ℕ) → List Row → Asked
reports_in folder rows =
    if two_given rows then Clashes else Reports folder (form_given rows)

-- what `report` asks, with what is given for its names
abbrev pub reports_by : List Row → Asked
reports_by rows = reports_in (word_given (codes "DIR") rows) rows

-- whether `--reasons` is given
abbrev pub reasons_given : List Row → Bool
reasons_given rows = flag_given (codes "reasons") rows

-- what `drill` asks in a folder, with what is given for its other names
abbrev pub drills_in : (folder : List ℕ) → List Row → Asked
drills_in folder rows = Drills folder (word_given (codes "SCRIPT") rows) (reasons_given rows)

-- what `drill` asks, with what is given for its names
abbrev pub drills_by : List Row → Asked
drills_by rows = drills_in (word_given (codes "DIR") rows) rows

-- what `serve` asks, with what is given for its names
abbrev pub serves_by : List Row → Asked
serves_by rows =
    Serves (word_given (codes "DIR") rows) (sessions_given rows) (fresh_given rows)

-- what `explain` asks, with what is given for its names
abbrev pub explains_by : List Row → Asked
explains_by rows = Explains (word_given (codes "DIR") rows) (question_given rows)

-- what is asked by the subcommand that the words name, with what is given for its names; without
-- one it is a drill with the built-in configuration, of the script on standard input, without
-- reasons
abbrev pub asked_by : Option (Text × List Row) → Asked
asked_by None = Drills (codes "K1") (codes "stdin") false
asked_by (Some met) =
    if bytes_eq met.0 (codes "check") then Checks (word_given (codes "DIR") met.1)
    else if bytes_eq met.0 (codes "explain") then explains_by met.1
    else if bytes_eq met.0 (codes "token") then Tells (word_given (codes "TEXT") met.1)
    else if bytes_eq met.0 (codes "serve") then serves_by met.1
    else if bytes_eq met.0 (codes "stop") then Stops (word_given (codes "DIR") met.1)
    else if bytes_eq met.0 (codes "report") then reports_by met.1
    else if bytes_eq met.0 (codes "add-buffer") then Adds (word_given (codes "DIR") met.1)
    else if bytes_eq met.0 (codes "pause") then Pauses (word_given (codes "DIR") met.1)
    else if bytes_eq met.0 (codes "go") then Goes (word_given (codes "DIR") met.1)
    else if bytes_eq met.0 (codes "reload") then Reloads (word_given (codes "DIR") met.1)
    else drills_by met.1

-- the words have a fault of this kind, by clap's reading of them; to ask for help or the version is
-- one
abbrev pub HasFault : List Text → ErrorKind → Type 0
HasFault words kind = IsAmong kind (fault_of program_words words)

-- the words ask for this, and have no fault, by clap's reading of them
pub record IsAskedBy (words : List Text) (a : Asked) : Type 0 where
  pub taken : fault_of program_words words ≡ []
  pub read : asked_by (subcommand_of program_words words) ≡ a

-- the error says that memory ran out, or that the words have this fault
abbrev pub IsRefusedBy : List Text → Error → Type 0
IsRefusedBy words error = (kind_of error ≡ OutOfMemory) ⊎ HasFault words (kind_of error)

-- the answer is what the words ask for, or their fault
abbrev pub ReadsWords : List Text → Result Job Error → Type 0
ReadsWords words (Ok job) = IsAskedBy words (asked job)
ReadsWords words (Err error) = IsRefusedBy words error
