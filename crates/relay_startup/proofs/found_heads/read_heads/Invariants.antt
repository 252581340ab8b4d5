use Rattle.std.proofs.Common.{◌≤◌, length}
use Rattle.std.specs.Prelude.{vec_capacity}
use Rattle.relay_startup.proofs.HeadsRead.{HeadsRead}
use Rattle.relay_startup.proofs.found_heads.read_heads.Given as goal

-- the heads so far are read, and there is room for the others
abbrev pub invariant-loop-place : goal.invariant-loop-place
invariant-loop-place g l = record {
  read : HeadsRead g.S.BlockStore l.fn.stores l.stores l.place l.heads.items;
  room : length l.fn.stores ≤ vec_capacity l.heads;
}
