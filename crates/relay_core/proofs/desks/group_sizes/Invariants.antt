use Rattle.std.proofs.Common.{◌≡◌, ◌≤◌, length, map, take, vec_len, vec_capacity}
use Rattle.relay_conf.specs.Settings.{places_of_groups}
use Rattle.relay_core.specs.Desks.{members_of}
use Rattle.relay_core.proofs.desks.group_sizes.Given as goal

-- the sizes so far are those of the groups, and there is room for all
abbrev pub invariant-loop-group : goal.invariant-loop-group
invariant-loop-group l = record {
  count : vec_len l.sizes ≡ l.group-index;
  room : length l.config.buffers.groups.items ≤ vec_capacity l.sizes;
  said : l.sizes.items ≡ map members_of (take l.group-index (places_of_groups l.config.buffers));
}
