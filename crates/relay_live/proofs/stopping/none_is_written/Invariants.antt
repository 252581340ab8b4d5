use Rattle.std.proofs.Common.{map}
use Rattle.live_store.specs.Steps.{buffer_of}
use Rattle.relay_live.proofs.Rest.{AreIdleTo}
use Rattle.relay_live.proofs.stopping.none_is_written.Given as goal

-- no write is open in the buffers so far
abbrev pub invariant-loop-buffer : goal.invariant-loop-buffer
invariant-loop-buffer g l = AreIdleTo (map buffer_of l.buffers) l.buffer-index
