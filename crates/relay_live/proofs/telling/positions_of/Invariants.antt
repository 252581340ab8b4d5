use Rattle.std.proofs.Common.{◌≡◌, ◌≤◌, length, take, vec_capacity, vec_len}
use Rattle.block_shelf.specs.Each.{AreEach}
use Rattle.block_shelf.specs.Stopping.{TellsPosition}
use Rattle.relay_live.proofs.telling.positions_of.Given as goal

-- the positions so far are those of the placed groups so far
abbrev pub invariant-loop-placed_group : goal.invariant-loop-placed_group
invariant-loop-placed_group l = record {
  count : vec_len l.positions ≡ l.placed_group-index;
  room : length l.placed_groups ≤ vec_capacity l.positions;
  told : AreEach TellsPosition (take l.placed_group-index l.placed_groups) l.positions.items;
}
