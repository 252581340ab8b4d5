use Rattle.std.proofs.Common.{Ok}
use Rattle.block_shelf.specs.Restarting.{HaveRestarted, KeepsOn}
use Rattle.block_shelf.proofs.buffer_set.BufferSet.restart.Given as goal

-- the buffers before this place are restarted, and what was kept is
abbrev pub invariant-loop-place : goal.invariant-loop-place
invariant-loop-place g l = record {
  keeps : KeepsOn l.fn.self (Ok tt) l.self;
  restarted : HaveRestarted l.fn.stop l.place l.fn.self l.self;
}
