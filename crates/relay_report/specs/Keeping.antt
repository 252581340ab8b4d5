-- What is told of a relay that can't start, or can't be stopped so that it can start again
-- (docs/PROTOCOL.md, Statuses).
use Rattle.std.specs.Prelude.{ℕ, List, ◌++◌, codes, string_bytes}
use Rattle.relay_report.specs.declared.keeping.BufferFault.{BufferFault}
use Rattle.relay_report.specs.declared.keeping.BufferFault.TheVariants.{Device, NoHead, Unclosed}
use Rattle.relay_report.specs.declared.keeping.BufferFault.TheVariants.{Damaged, Mixed}
use Rattle.relay_report.specs.declared.keeping.HistoryFault.{HistoryFault}
use Rattle.relay_report.specs.declared.keeping.HistoryFault.TheVariants as causes
use Rattle.relay_report.specs.declared.keeping.StartFault.{StartFault}
use Rattle.relay_report.specs.declared.keeping.StartFault.TheVariants as starts
use Rattle.relay_report.specs.declared.keeping.StopFault.{StopFault}
use Rattle.relay_report.specs.declared.keeping.StopFault.TheVariants as stops

-- the code and the name of a buffer's fault (docs/FORMATS.md, Head blocks)
abbrev pub buffer_fault_text : BufferFault → List ℕ
buffer_fault_text Device = codes "1 Device"
buffer_fault_text NoHead = codes "2 NoHead"
buffer_fault_text Unclosed = codes "3 Unclosed"
buffer_fault_text Damaged = codes "4 Damaged"
buffer_fault_text Mixed = codes "6 Mixed"

-- the file that has no history of a relay of the configuration, the code and its name, and the word
-- of the cause (docs/FORMATS.md, History file)
abbrev pub history_fault_text : HistoryFault → List ℕ
history_fault_text causes.Missing = codes "relay.hist: 5 BadHistory missing"
history_fault_text causes.Text = codes "relay.hist: 5 BadHistory text"
history_fault_text causes.Names = codes "relay.hist: 5 BadHistory names"
history_fault_text causes.Groups = codes "relay.hist: 5 BadHistory groups"
history_fault_text causes.Feeds = codes "relay.hist: 5 BadHistory feeds"
history_fault_text causes.Ring = codes "relay.hist: 5 BadHistory ring"
history_fault_text causes.Buffers = codes "relay.hist: 5 BadHistory buffers"

-- the fault of a start, behind the name of the buffer or of the file that has it
abbrev pub start_text : StartFault → List ℕ
start_text starts.History = codes "relay.hist: unusable"
start_text (starts.BadHistory fault) = history_fault_text fault
start_text (starts.Buffer name fault) =
    string_bytes name ++ (codes ": " ++ buffer_fault_text fault)
start_text starts.Ahead = codes "relay.hist: 7 Ahead"
start_text starts.Names = codes "relay.names: unusable"

-- why a relay couldn't be stopped so that it can start again
abbrev pub stop_text : StopFault → List ℕ
stop_text stops.NotIdle = codes "stop: NotIdle"
stop_text stops.Device = codes "stop: Device"
stop_text stops.History = codes "relay.hist: unusable"
