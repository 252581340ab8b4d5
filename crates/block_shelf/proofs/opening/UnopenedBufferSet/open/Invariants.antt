use Rattle.std.proofs.Common.{◌≡◌, ◌≤◌, ◌++◌, length}
use Rattle.block_shelf.specs.Heads.{HasOpened, opening_count, opening_room}
use Rattle.block_shelf.proofs.opening.UnopenedBufferSet.open.Given as goal

-- the buffers so far are open, or one has failed
abbrev pub invariant-loop-unopened : goal.invariant-loop-unopened
invariant-loop-unopened g l = record {
  all : l.yielded ++ l.unopened-iterator.rest.items ≡ l.fn.self.buffers.items;
  opened : HasOpened l.yielded l.opening;
  count : opening_count l.opening ≡ length l.yielded;
  room : length l.fn.self.buffers.items ≤ opening_room l.opening;
}
