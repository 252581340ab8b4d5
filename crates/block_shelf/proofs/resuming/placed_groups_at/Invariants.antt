use Rattle.std.proofs.Common.{◌≡◌, ◌≤◌, length, take, vec_capacity, vec_len}
use Rattle.block_shelf.specs.Each.{AreEach}
use Rattle.block_shelf.specs.Resuming.{IsResumedAt}
use Rattle.block_shelf.proofs.resuming.placed_groups_at.Given as goal

-- the placed groups so far are those of the groups so far, at their positions
abbrev pub invariant-loop-place : goal.invariant-loop-place
invariant-loop-place l = record {
  count : vec_len l.placed_groups ≡ l.place;
  room : length l.settings.groups.items ≤ vec_capacity l.placed_groups;
  are : AreEach
      (IsResumedAt l.settings.buffers.items l.positions l.used)
      (take l.place l.settings.groups.items) l.placed_groups.items;
}
