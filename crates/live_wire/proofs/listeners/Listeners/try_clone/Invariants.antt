use Rattle.std.proofs.Common.{◌≡◌, length}
use Rattle.live_wire.proofs.listeners.Listeners.try_clone.Given as goal

-- there is a socket for each one so far
abbrev pub invariant-loop-socket : goal.invariant-loop-socket
invariant-loop-socket l = length l.sockets.items ≡ l.socket-index
