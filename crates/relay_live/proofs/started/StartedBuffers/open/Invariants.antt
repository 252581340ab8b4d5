use Rattle.std.proofs.Common.{◌≤◌, length}
use Rattle.std.specs.Prelude.{vec_capacity}
use Rattle.std.specs.Vec.Iter.{into_iter_len}
use Rattle.relay_live.proofs.OpenedBuffers.{OpenSoFar}
use Rattle.relay_live.proofs.started.StartedBuffers.open.Given as goal

-- the buffers so far are open
abbrev pub invariant-loop-unopened : goal.invariant-loop-unopened
invariant-loop-unopened g l = record {
  so_far : OpenSoFar l.fn.self.buffers.items l.left.rest.items l.opened.items;
  room : length l.fn.self.buffers.items ≤ vec_capacity l.opened;
}

abbrev pub decreases-loop-unopened : goal.decreases-loop-unopened
decreases-loop-unopened g l = into_iter_len l.left
