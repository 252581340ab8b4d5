use Rattle.std.proofs.Common.{◌≡◌, length}
use Rattle.live_wire.proofs.listeners.Listeners.bind.Given as goal

-- there is a socket for each address so far
abbrev pub invariant-loop-address : goal.invariant-loop-address
invariant-loop-address g l = length l.sockets.items ≡ l.address-index
