use Rattle.std.proofs.Common.{◌≡◌, ◌≤◌, All, vec_len, vec_capacity}
use Rattle.relay_core.specs.Beginning.{IsIdle}
use Rattle.relay_core.proofs.beginning.new_group_writers.Given as goal

-- the group writers so far are idle, and there is room for all
abbrev pub invariant-loop : goal.invariant-loop
invariant-loop l = record {
  count : vec_len l.group_writers ≡ l.counter;
  room : l.count ≤ vec_capacity l.group_writers;
  idle : All IsIdle l.group_writers.items;
}
