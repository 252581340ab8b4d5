use Rattle.std.proofs.Common.{◌≡◌, ◌≤◌, length, take, vec_capacity, vec_len}
use Rattle.block_shelf.specs.Each.{AreEach}
use Rattle.block_shelf.specs.Stopping.{TellsPosition}
use Rattle.block_shelf.proofs.buffer_set.BufferSet.positions.Given as goal

-- the positions so far are those of the placed groups so far
abbrev pub invariant-loop-placed_group : goal.invariant-loop-placed_group
invariant-loop-placed_group g l = record {
  count : vec_len l.positions ≡ l.placed_group-index;
  room : length l.self.placed_groups.items ≤ vec_capacity l.positions;
  told : AreEach TellsPosition (take l.placed_group-index l.self.placed_groups.items)
      l.positions.items;
}
