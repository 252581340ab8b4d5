-- How the program ends (docs/PROTOCOL.md, Statuses).
use Rattle.std.specs.Prelude.{ℕ, List, ◌++◌, codes, Option, None, Some, Result, Ok, Err}
use Rattle.std.specs.Prelude.{MatchOption, option_map, ⊤}
use Rattle.std.specs.Io.KnownBytes.{Appends, Keeps}
use Rattle.std.specs.declared.io.ErrorKind as io
use Rattle.std.specs.declared.io.ErrorKind.TheVariants as kinds
use Rattle.clap.specs.Words.{kind_of}
use Rattle.clap.specs.declared.error.kind.ErrorKind.{ErrorKind}
use Rattle.clap.specs.declared.error.kind.ErrorKind.TheVariants.{OutOfMemory}
use Rattle.relay_drill.specs.Text.{text_of}
use Rattle.relay_drill.specs.declared.fault.DrillError.TheVariants as drill
use Rattle.relay_command.specs.Ask.{ask_text}
use Rattle.relay_command.specs.Check.{check_text}
use Rattle.relay_command.specs.Explain.{explain_text}
use Rattle.relay_command.specs.Tell.{fault_text}
use Rattle.relay_command.specs.declared.ask.AskError.TheVariants as ask
use Rattle.relay_command.specs.declared.load.CheckError as load
use Rattle.relay_command.specs.declared.load.CheckError.TheVariants as check
use Rattle.relay_command.specs.declared.failure.Failure.{Failure}
use Rattle.relay_command.specs.declared.failure.Failure.TheVariants.{Unbegun, Words, Clash, Check}
use Rattle.relay_command.specs.declared.failure.Failure.TheVariants.{Explain}
use Rattle.relay_command.specs.declared.failure.Failure.TheVariants.{Drill, Serve, Token, Ask}
use Rattle.relay_command.specs.declared.failure.Failure.TheVariants.{Unwritten}
use Rattle.relay_command.specs.declared.failure.Unbegun.TheVariants as unbegun
use Rattle.relay_command.specs.declared.failure.Unbegun as begin
use Rattle.relay_command.specs.declared.token.TokenFault.TheVariants as token
use Rattle.relay_report.specs.ServeText as serving
use Rattle.relay_report.specs.declared.fault.ServeError.{ServeError}
use Rattle.relay_report.specs.declared.fault.ServeError.TheVariants as serve

-- why the words can't be had: memory ran out, or one is no UTF-8 (docs/PROTOCOL.md, Statuses)
abbrev pub unbegun_as : io.ErrorKind → begin.Unbegun
unbegun_as kinds.OutOfMemory = unbegun.Memory
unbegun_as kind = unbegun.NoText

-- 5 where memory ran out while the words were read, else 1
abbrev pub words_status : ErrorKind → ℕ
words_status OutOfMemory = 5
words_status kind = 1

-- 2 where a configuration is at fault or can't be read, 4 where the writer failed, 5 for memory
abbrev pub check_status : load.CheckError → ℕ
check_status check.Memory = 5
check_status (check.Unreadable file) = 2
check_status (check.Faulty file line code name) = 2
check_status check.Unwritten = 4

-- 1 for the command line, 2 for the configuration, 3 for the script or the token, 4 for the output,
-- a file, a port, a relay that can't start, be stopped or be asked, 5 for memory or a thread
abbrev pub status_of : Failure → ℕ
status_of (Unbegun unbegun.Memory) = 5
status_of (Unbegun unbegun.NoText) = 1
status_of (Words error) = words_status (kind_of error)
status_of Clash = 1
status_of (Check error) = check_status error
status_of (Explain unexplained) = check_status unexplained.error
status_of (Drill drill.Memory) = 5
status_of (Drill (drill.Line number)) = 3
status_of (Drill drill.Unreadable) = 3
status_of (Drill drill.Unwritten) = 4
status_of (Drill drill.Unseeded) = 4
status_of (Drill drill.Device) = 4
status_of (Drill drill.Unrepaired) = 4
status_of (Token token.Length) = 3
status_of (Token token.Marks) = 3
status_of (Token token.Digit) = 3
status_of (Token token.LowerCase) = 3
status_of (Token token.Unwritten) = 4
status_of (Serve (serve.File lost)) = 4
status_of (Serve (serve.Port lost)) = 4
status_of (Serve serve.Control) = 4
status_of (Serve (serve.Start fault)) = 4
status_of (Serve serve.Unseeded) = 4
status_of (Serve serve.Memory) = 5
status_of (Serve serve.NoThread) = 5
status_of (Serve (serve.Stop fault)) = 4
status_of (Serve serve.Unwritten) = 4
status_of (Ask (ask.Unserved folder)) = 4
status_of (Ask ask.Unusable) = 4
status_of (Ask ask.Memory) = 5
status_of (Ask ask.Unwritten) = 4
status_of (Ask ask.Refused) = 4
status_of Unwritten = 4

-- 0 where all went well, else the failure's
abbrev pub ends_with : Result (Unit {0}) Failure → ℕ
ends_with (Ok done) = 0
ends_with (Err failure) = status_of failure

-- why a relay was not served to its end, where that is the failure
abbrev pub served_of : Failure → Option ServeError
served_of (Serve error) = Some error
served_of failure = None

-- why the words could not be had, without the line's end
abbrev pub unbegun_text : begin.Unbegun → List ℕ
unbegun_text unbegun.Memory = codes "out of memory"
unbegun_text unbegun.NoText = codes "a word is no UTF-8"

-- what is told of a report in two forms, as clap tells it of words that clash
abbrev pub clash_text : List ℕ
clash_text = codes "error: the argument '--openmetrics' cannot be used with '--html'"

-- a text and the line's end
abbrev pub ended : List ℕ → List ℕ
ended text = text ++ codes "\n"

-- what a failure says, without the line's end; what clap says is not known
abbrev pub failure_text : Failure → Option (List ℕ)
failure_text (Unbegun unbegun) = Some (unbegun_text unbegun)
failure_text (Words error) = None
failure_text Clash = Some clash_text
failure_text (Check error) = Some (check_text error)
failure_text (Explain unexplained) = Some (explain_text unexplained.error)
failure_text (Drill error) = Some (text_of error)
failure_text (Token fault) = Some (fault_text fault)
failure_text (Serve error) = Some (serving.text_of error)
failure_text (Ask error) = Some (ask_text error)
failure_text Unwritten = Some (codes "stdout: unwritten")

-- what is told of a failure: what it says, in a line of its own
abbrev pub told_of : Failure → Option (List ℕ)
told_of failure = option_map ended (failure_text failure)

-- where all went well nothing was written, else what is told of the failure
abbrev pub Tells : Result (Unit {0}) Failure → (before after : Option (List ℕ)) → Type 0
Tells (Ok done) before after = Keeps before after
Tells (Err failure) before after =
    MatchOption (told_of failure) ⊤ (λ text. Appends before after text)
