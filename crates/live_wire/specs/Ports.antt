-- How many connections a port takes, and of whom.
use Rattle.std.specs.Prelude.{◌≡◌, ℕ, ◌+◌, List, Option, None, Some}
use Rattle.std.specs.Net.Addr.{ipv6_octets}
use Rattle.live_wire.specs.declared.callers.Callers.{Callers}
use Rattle.live_wire.specs.declared.line.Line.{Line}
use Rattle.live_wire.specs.declared.port.Port.{Port}
use Rattle.live_wire.specs.declared.wire.RecordingReader.{RecordingReader}

-- how many connections it still takes; None where they have no end
abbrev pub left_of : Port → Option ℕ
left_of port = port.left

-- who may connect
abbrev pub callers_of : Port → Callers
callers_of port = port.callers.now

-- the address that a connection comes from, its sixteen octets
abbrev pub comes_from : RecordingReader Line → List ℕ
comes_from reader = ipv6_octets reader.reader.from

-- one fewer, where they have an end
abbrev pub OneLess : Option ℕ → Option ℕ → Type 0
OneLess None later = later ≡ None
OneLess (Some before) None = Some before ≡ None
OneLess (Some before) (Some later) = before ≡ later + 1
