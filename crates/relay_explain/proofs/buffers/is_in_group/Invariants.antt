use Rattle.std.proofs.Common.{◌≡◌, drop}
use Rattle.relay_explain.specs.Buffers.{is_in_group}
use Rattle.relay_explain.proofs.buffers.is_in_group.Given as goal

-- no group so far has it
abbrev pub invariant-loop-group : goal.invariant-loop-group
invariant-loop-group l =
    is_in_group l.number (drop l.group-index l.groups) ≡ is_in_group l.number l.groups
