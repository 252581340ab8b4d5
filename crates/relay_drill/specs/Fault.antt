-- What the reader of a script answers (docs/PROTOCOL.md, Program).
use Rattle.std.specs.Prelude.{◌≡◌, ℕ, List, map, Option, None, Some, IfSome, Result, Ok, Err}
use Rattle.std.specs.Prelude.{[], ◌∷◌, bytes_eq, if◌then◌else◌}
use Rattle.std.specs.declared.alloc.AllocError.{AllocError}
use Rattle.std.specs.declared.io.ErrorKind.{ErrorKind}
use Rattle.std.specs.declared.io.ErrorKind.TheVariants.{OutOfMemory}
use Rattle.std.specs.IoError.{error_kind}
use Rattle.block_shelf.specs.declared.beginning.BeginError.{BeginError}
use Rattle.block_shelf.specs.declared.starting.StopFault.{StopFault}
use Rattle.block_shelf.specs.declared.starting.StopFault.TheVariants as stops
use Rattle.relay_core.specs.declared.stopped.NotStarted.{NotStarted}
use Rattle.relay_core.specs.declared.stopped.NotStarted.TheVariants as nots
use Rattle.block_shelf.specs.declared.beginning.BeginError.TheVariants as begins
use Rattle.relay_drill.specs.declared.fault.DrillError.{DrillError}
use Rattle.relay_drill.specs.declared.fault.DrillError.TheVariants as faults
use Rattle.relay_drill.specs.declared.script.Keyword.{Keyword}
use Rattle.relay_drill.specs.declared.script.Keyword.TheVariants as keywords
use Rattle.relay_drill.specs.declared.line.Line.{Line}
use Rattle.relay_drill.specs.declared.line.Line.TheVariants.{Open, Bring, Split, Turn, Write}
use Rattle.relay_drill.specs.declared.line.Line.TheVariants.{Rounds, Break, Expire, Fail, Restart}
use Rattle.relay_drill.specs.declared.line.Line.TheVariants.{Crash, CrashAt, Report}
use Rattle.relay_drill.specs.declared.fault.Ended.{Ended}
use Rattle.relay_drill.specs.declared.fault.Ended.TheVariants as ends
use Rattle.relay_drill.specs.Script as script

-- a keyword as the format has it
abbrev pub keyword_view : Keyword → script.Keyword
keyword_view keywords.Open = script.OPEN
keyword_view keywords.Send = script.SEND
keyword_view keywords.Raw = script.RAW
keyword_view keywords.Split = script.SPLIT
keyword_view keywords.Turn = script.TURN
keyword_view keywords.Write = script.WRITE
keyword_view keywords.Rounds = script.ROUNDS
keyword_view keywords.Break = script.BREAK
keyword_view keywords.Expire = script.EXPIRE
keyword_view keywords.Fail = script.FAIL
keyword_view keywords.Restart = script.RESTART
keyword_view keywords.Crash = script.CRASH
keyword_view keywords.Report = script.REPORT

-- the keyword that is spelled so, of these
abbrev pub keyword_among : List (List ℕ × script.Keyword) → List ℕ → Option script.Keyword
keyword_among [] word = None
keyword_among (one ∷ more) word =
    if bytes_eq word one.0 then Some one.1 else keyword_among more word

-- a line as the format has it
abbrev pub line_view : Line → script.Line
line_view (Open session peer) = script.Opens session peer
line_view (Bring session octets) = script.Brings session octets.items
line_view (Split size) = script.Splits size.octets
line_view (Turn session moment) = script.Turns session moment
line_view (Write group moment) = script.Writes group moment
line_view (Rounds count moment) = script.Rounds count moment
line_view (Break session) = script.Breaks session
line_view (Expire shard moment) = script.Expires shard moment
line_view (Fail buffer call) = script.Fails buffer call
line_view Restart = script.Restarts
line_view Crash = script.Crashes
line_view (CrashAt buffer call) = script.CrashesAt buffer call
line_view Report = script.Reports

-- the answer is the line that the words say, or None where they are bad, unless memory ran out
abbrev pub LineGives : Result (Option Line) AllocError → Option script.Line → Type 0
LineGives (Ok None) says = says ≡ None
LineGives (Ok (Some line)) says = says ≡ Some (line_view line)
LineGives (Err e) says = Unit {0}

-- the answer is the lines that the script says, or the number of its first bad line, unless memory
-- ran out
abbrev pub ScriptGives : {L : Type 0} → (L → List Line) → Result L DrillError
    → Result (List script.Line) ℕ → Type 0
ScriptGives items (Ok lines) says = says ≡ Ok (map line_view (items lines))
ScriptGives items (Err faults.Memory) says = Unit {0}
ScriptGives items (Err (faults.Line number)) says = says ≡ Err number
ScriptGives items (Err faults.Unreadable) says = ⊥
ScriptGives items (Err faults.Unwritten) says = ⊥
ScriptGives items (Err faults.Unseeded) says = ⊥
ScriptGives items (Err faults.Device) says = ⊥
ScriptGives items (Err faults.Unrepaired) says = ⊥

-- the error says that it was halted for want of memory, that it was broken off since the writer
-- failed, or that the relay was killed, and isn't repaired
abbrev pub FailGives : DrillError → (halted broken killed : Type 0) → Type 0
FailGives faults.Memory halted broken killed = halted
FailGives faults.Unwritten halted broken killed = broken
FailGives (faults.Line number) halted broken killed = ⊥
FailGives faults.Unreadable halted broken killed = ⊥
FailGives faults.Unseeded halted broken killed = ⊥
FailGives faults.Device halted broken killed = ⊥
FailGives faults.Unrepaired halted broken killed = killed

-- a line ended by an error, or since the power went in one of its events
abbrev pub EndGives : Ended → (halted broken killed lost : Type 0) → Type 0
EndGives (ends.Faulty error) halted broken killed lost = FailGives error halted broken killed
EndGives ends.Cut halted broken killed lost = lost

-- the answer says that the line is done, or how it ended before
abbrev pub DoGives : {A : Type 0} → Result A Ended → (done : A → Type 0)
    → (halted broken killed lost : Type 0) → Type 0
DoGives (Ok value) done halted broken killed lost = done value
DoGives (Err ended) done halted broken killed lost = EndGives ended halted broken killed lost

-- the answer says that all is done, or why it isn't
abbrev pub PlayGives : {A : Type 0} → Result A DrillError → (done : A → Type 0)
    → (halted broken killed : Type 0) → Type 0
PlayGives (Ok value) done halted broken killed = done value
PlayGives (Err error) done halted broken killed = FailGives error halted broken killed

-- the answer is all that the reader has left, where that is known; without it memory ran out or the
-- reader failed
abbrev pub ReadGives : {T : Type 0} → (T → List ℕ) → Result T DrillError → Option (List ℕ) → Type 0
ReadGives items (Ok text) left = IfSome left (λ all. items text ≡ all)
ReadGives items (Err faults.Memory) left = Unit {0}
ReadGives items (Err faults.Unreadable) left = Unit {0}
ReadGives items (Err (faults.Line number)) left = ⊥
ReadGives items (Err faults.Unwritten) left = ⊥
ReadGives items (Err faults.Unseeded) left = ⊥
ReadGives items (Err faults.Device) left = ⊥
ReadGives items (Err faults.Unrepaired) left = ⊥

-- why the host can't let a relay begin: memory ran out, or it has no random numbers
abbrev pub unbegun_as : ErrorKind → DrillError
unbegun_as OutOfMemory = faults.Memory
unbegun_as kind = faults.Unseeded

-- what a drill is told by whose relay isn't repaired and started: want of memory by its own name
abbrev pub unseeded_as : ErrorKind → DrillError
unseeded_as OutOfMemory = faults.Memory
unseeded_as kind = faults.Unrepaired

abbrev pub unstarted_as : StopFault → DrillError
unstarted_as stops.Memory = faults.Memory
unstarted_as fault = faults.Unrepaired

abbrev pub unrepaired_as : {S : Type 0} → NotStarted S → DrillError
unrepaired_as (nots.Host why stores) = unseeded_as (error_kind why)
unrepaired_as (nots.Refused refused) = unstarted_as refused.error

-- what a drill is told by whose relay doesn't begin: why the host couldn't let it, or that a device
-- failed
abbrev pub told_as : {S : Type 0} → BeginError S → DrillError
told_as (begins.Host why) = unbegun_as (error_kind why)
told_as (begins.Device number store) = faults.Device
