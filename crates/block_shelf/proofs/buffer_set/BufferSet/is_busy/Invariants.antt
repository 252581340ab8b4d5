use Rattle.block_shelf.specs.Stopping.{AreIdleTo}
use Rattle.block_shelf.proofs.buffer_set.BufferSet.is_busy.Given as goal

-- no write is open in the buffers so far
abbrev pub invariant-loop-buffer : goal.invariant-loop-buffer
invariant-loop-buffer g l = AreIdleTo l.self l.buffer-index
