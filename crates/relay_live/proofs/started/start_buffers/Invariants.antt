use Rattle.std.proofs.Common.{◌≤◌, length}
use Rattle.std.specs.Prelude.{vec_capacity}
use Rattle.std.specs.Vec.Iter.{into_iter_len}
use Rattle.relay_live.proofs.BuffersInTurn.{StartedSoFar}
use Rattle.relay_live.proofs.started.start_buffers.Given as goal

-- the buffers so far are started
abbrev pub invariant-loop-slot : goal.invariant-loop-slot
invariant-loop-slot g l = record {
  so_far : StartedSoFar l.fn.stop l.fn.stores.items l.left.rest.items l.buffers.items l.mixed;
  room : length l.fn.stores.items ≤ vec_capacity l.buffers;
}

abbrev pub decreases-loop-slot : goal.decreases-loop-slot
decreases-loop-slot g l = into_iter_len l.left
