-- What is told of a relay that was not served to its end (docs/PROTOCOL.md, Statuses).
use Rattle.std.specs.Prelude.{ℕ, List, ◌++◌, codes, decimal, string_bytes}
use Rattle.relay_report.specs.Keeping.{start_text, stop_text}
use Rattle.relay_report.specs.Reasons.{reason_text}
use Rattle.relay_report.specs.declared.fault.LostFile.{LostFile}
use Rattle.relay_report.specs.declared.fault.LostPort.{LostPort}
use Rattle.relay_report.specs.declared.fault.ServeError.{ServeError}
use Rattle.relay_report.specs.declared.fault.ServeError.TheVariants.{File, Port, Control}
use Rattle.relay_report.specs.declared.fault.ServeError.TheVariants.{Unseeded, Memory, NoThread}
use Rattle.relay_report.specs.declared.fault.ServeError.TheVariants.{Unwritten, Start, Stop}

-- a file that can't be had: its name, and below it why
abbrev pub lost_file_text : LostFile → List ℕ
lost_file_text lost =
    string_bytes lost.name ++ (codes ": unusable\n" ++ reason_text lost.reason)

-- a port that can't be had: its number, and below it why
abbrev pub lost_port_text : LostPort → List ℕ
lost_port_text lost =
    codes "serve: "
    ++ (decimal lost.number ++ (codes ": unusable\n" ++ reason_text lost.reason))

-- the text of a failure, without the end of its last line
abbrev pub text_of : ServeError → List ℕ
text_of (File lost) = lost_file_text lost
text_of (Port lost) = lost_port_text lost
text_of Control = codes "control: unusable"
text_of (Start fault) = start_text fault
text_of Unseeded = codes "relay: no random numbers to be had"
text_of Memory = codes "out of memory"
text_of NoThread = codes "serve: no thread to be had"
text_of (Stop fault) = stop_text fault
text_of Unwritten = codes "stdout: unwritten"
