use Rattle.std.proofs.Common.{◌≤◌, length, take, vec_capacity, vec_len}
use Rattle.block_shelf.specs.Filling.{IsNamed}
use Rattle.block_shelf.proofs.filling.members_of.Given as goal

-- numbers and blocks so far are those of the buffers that are named so far, and there is room for
-- all
abbrev pub invariant-loop-number : goal.invariant-loop-number
invariant-loop-number l = record {
  named : IsNamed l.all (take l.number-index l.group.buffers.items) l.numbers.items l.blocks.items;
  numbers : vec_len l.numbers ≤ l.number-index;
  blocks : vec_len l.blocks ≤ l.number-index;
  numbers_room : length l.group.buffers.items ≤ vec_capacity l.numbers;
  blocks_room : length l.group.buffers.items ≤ vec_capacity l.blocks;
}
