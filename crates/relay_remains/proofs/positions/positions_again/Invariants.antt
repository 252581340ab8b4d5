use Rattle.std.proofs.Common.{◌≡◌, ◌≤◌, length, take, vec_capacity, vec_len}
use Rattle.block_shelf.specs.Each.{AreEach}
use Rattle.relay_remains.specs.Positions.{IsPositionOf}
use Rattle.relay_remains.proofs.positions.positions_again.Given as goal

-- the positions so far are those of the groups so far, and there is room for all
abbrev pub invariant-loop-place : goal.invariant-loop-place
invariant-loop-place g l = record {
  count : vec_len l.positions ≡ l.place;
  room : length l.settings.groups.items ≤ vec_capacity l.positions;
  are : AreEach (IsPositionOf l.settings.buffers.items l.old l.found_set)
      (take l.place l.settings.groups.items) l.positions.items;
}
