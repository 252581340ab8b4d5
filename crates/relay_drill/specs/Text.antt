-- What is told of a drill that ended early (docs/PROTOCOL.md, Statuses).
use Rattle.std.specs.Prelude.{ℕ, List, ◌++◌, codes, decimal}
use Rattle.relay_drill.specs.declared.fault.DrillError.{DrillError}
use Rattle.relay_drill.specs.declared.fault.DrillError.TheVariants.{Memory, Line, Unreadable}
use Rattle.relay_drill.specs.declared.fault.DrillError.TheVariants.{Unwritten, Unseeded, Device}
use Rattle.relay_drill.specs.declared.fault.DrillError.TheVariants.{Unrepaired}

-- the text of a fault, without the line's end
abbrev pub text_of : DrillError → List ℕ
text_of Memory = codes "out of memory"
text_of (Line number) = codes "script:" ++ decimal number ++ codes ": fault"
text_of Unreadable = codes "script: unreadable"
text_of Unwritten = codes "stdout: unwritten"
text_of Unseeded = codes "relay: no random numbers to be had"
text_of Device = codes "relay: a device failed"
text_of Unrepaired = codes "relay: not repaired"
