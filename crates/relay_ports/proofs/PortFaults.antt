-- Why the ports of a relay can't be had.
use Rattle.std.proofs.Common.{◌≡◌, ◌≢◌, ℕ, Bool, true, false, List, refl}
use Rattle.std.specs.Prelude.{Any, if◌then◌else◌}
use Rattle.std.specs.declared.io.ErrorKind.{ErrorKind}
use Rattle.relay_conf.specs.declared.relay.Peer.{Peer}
use Rattle.relay_report.specs.declared.fault.ServeError.TheVariants as faults
use Rattle.relay_ports.specs.Ports.{IsPortFault, is_want_of_memory, lost_port, port_reason}

-- The fault of a port is that of a port of a peer, or want of memory.
pub lost_is_fault : (peers : List Peer) (number : ℕ) (kind : ErrorKind) → number ≢ 0
    → Any (λ (one : Peer). one.port ≡ number) peers
    → IsPortFault peers (lost_port number kind)
lost_is_fault peers number kind some among = by_kind (is_want_of_memory kind)
  where
    by_kind : (memory : Bool)
        → IsPortFault peers (if memory then faults.Memory
        else faults.Port (record { number = number; reason = port_reason kind }))
    by_kind true = refl
    by_kind false = (some, among)
