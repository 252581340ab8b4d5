-- The ports of the peers (docs/FORMATS.md, relay.conf).
use Rattle.std.specs.Prelude.{◌≡◌, ◌≢◌, ◌+◌, ◌==◌, ◌++◌, ℕ, List, [], ◌∷◌, Any, replicate}
use Rattle.std.specs.Prelude.{Bool, false, if◌then◌else◌, true}
use Rattle.relay_conf.specs.declared.relay.Peer.{Peer}
use Rattle.std.specs.declared.io.ErrorKind.{ErrorKind}
use Rattle.std.specs.declared.io.ErrorKind.TheVariants as kinds
use Rattle.relay_report.specs.declared.fault.ServeError.{ServeError}
use Rattle.relay_report.specs.declared.fault.ServeError.TheVariants as faults
use Rattle.relay_report.specs.declared.reason.Reason.{Reason}
use Rattle.relay_report.specs.declared.reason.Reason.TheVariants.{InUse, NoAddress, NoRight}
use Rattle.relay_report.specs.declared.reason.Reason.TheVariants.{Refused}

-- the peers of the ends, where the first of these peers has this number: each that has a port, as
-- often as its connections are served at once
abbrev pub ends_from : ℕ → List Peer → List ℕ
ends_from number [] = []
ends_from number (peer ∷ peers) =
    if peer.port == 0 then ends_from (number + 1) peers
    else replicate peer.connections number ++ ends_from (number + 1) peers

-- memory was refused, or the port of a peer can't be had; a peer of port 0 has none
abbrev pub IsPortFault : List Peer → ServeError → Type 0
IsPortFault peers (faults.Port lost) =
    (lost.number ≢ 0) × Any (λ peer. peer.port ≡ lost.number) peers
IsPortFault peers error = error ≡ faults.Memory

-- why a port can't be had, by the kind of the system's error
abbrev pub port_reason : ErrorKind → Reason
port_reason kinds.AddrInUse = InUse
port_reason kinds.PermissionDenied = NoRight
port_reason kinds.AddrNotAvailable = NoAddress
port_reason kind = Refused

-- the error is want of memory
abbrev pub is_want_of_memory : ErrorKind → Bool
is_want_of_memory kinds.OutOfMemory = true
is_want_of_memory kind = false

-- the fault of the port of this number, by the kind of the error: its own, or want of memory
abbrev pub lost_port : ℕ → ErrorKind → ServeError
lost_port number kind =
    if is_want_of_memory kind then faults.Memory
    else faults.Port (record { number = number; reason = port_reason kind })
