-- Who may connect to a port.
use Rattle.std.specs.Prelude.{ℕ, Bool, List, Option, None, Some, if◌then◌else◌}
use Rattle.live_wire.specs.declared.callers.Callers.{Callers}
use Rattle.relay_conf.specs.Reach.{may_reach}

-- an address, its sixteen octets, may connect where it may reach the peer (docs/FORMATS.md,
-- relay.conf)
abbrev pub may_call : Callers → (address : List ℕ) → Bool
may_call callers address = may_reach callers.relay.now.allows.items callers.peer address

-- what is left of a connection from this address: nothing where it may not connect
abbrev pub let_in_of : {X : Type 0} → Callers → (address : List ℕ) → X → Option X
let_in_of callers address stream = if may_call callers address then Some stream else None
