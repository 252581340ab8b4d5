use Rattle.std.proofs.Common.{◌≡◌, ◌≤◌, length, take}
use Rattle.block_shelf.specs.Filling.{members}
use Rattle.relay_startup.proofs.causes.members.Given as goal

-- so many of the numbers so far stand for buffers
abbrev pub invariant-loop-number : goal.invariant-loop-number
invariant-loop-number l = record {
  few : l.count ≤ l.number-index;
  said : l.count
      ≡ length (members l.settings.buffers.items (take l.number-index l.group.buffers.items));
}
