use Rattle.std.proofs.Common.{◌≡◌, length, take}
use Rattle.relay_drill.specs.Crashing.{AreSized}
use Rattle.relay_drill.proofs.Stores.{seen}
use Rattle.relay_drill.proofs.reviving.are_sized.Given as goal

-- the stores so far are of the sizes of the buffers so far, and there are as many
abbrev pub invariant-loop-place : goal.invariant-loop-place
invariant-loop-place l = record {
  count : length l.stores ≡ length l.buffers;
  sized : AreSized seen (take l.place l.stores) (take l.place l.buffers);
}
