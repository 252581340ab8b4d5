use Rattle.std.proofs.Common.{◌≡◌, ◌≤◌, ◌++◌, length}
use Rattle.buffer_repair.specs.Finding.{HasFound, tried_count, tried_idle, tried_room}
use Rattle.buffer_repair.proofs.finding.find_each.Given as goal

-- the buffers so far are found, or one was refused
abbrev pub invariant-loop-store : goal.invariant-loop-store
invariant-loop-store g l = record {
  all : l.yielded ++ l.store-iterator.rest.items ≡ l.fn.stores.items;
  found : HasFound l.yielded l.finding;
  idle : tried_idle l.finding;
  count : tried_count l.finding ≡ length l.yielded;
  room : length l.fn.stores.items ≤ tried_room l.finding;
}
