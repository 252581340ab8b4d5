use Rattle.std.proofs.Common.{flat_map, map, take}
use Rattle.relay_explain.specs.Buffers.{group_text}
use Rattle.relay_explain.specs.Text.{Adds}
use Rattle.relay_explain.proofs.groups.put_groups.Given as goal

-- what is told of the groups so far is there
abbrev pub invariant-loop-group : goal.invariant-loop-group
invariant-loop-group l =
    Adds l.fn.text l.text
    (flat_map (group_text l.fn.config (map (λ line. line.now) l.fn.lines))
    (take l.group-index l.fn.config.buffers.groups.items))
