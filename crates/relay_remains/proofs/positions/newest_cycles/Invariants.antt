use Rattle.std.proofs.Common.{◌≡◌, ◌≤◌, length, take, vec_capacity, vec_len}
use Rattle.block_shelf.specs.Filling.{members}
use Rattle.relay_remains.specs.Positions.{cycles_in}
use Rattle.relay_remains.proofs.positions.newest_cycles.Given as goal

-- the cycles so far are those of the buffers that are named so far, and there is room for all
abbrev pub invariant-loop-number : goal.invariant-loop-number
invariant-loop-number g l = record {
  are : l.cycles.items
      ≡ cycles_in l.found_set (members l.all (take l.number-index l.group.buffers.items));
  count : vec_len l.cycles ≤ l.number-index;
  room : length l.group.buffers.items ≤ vec_capacity l.cycles;
}
