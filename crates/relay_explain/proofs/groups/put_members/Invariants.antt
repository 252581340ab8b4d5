use Rattle.std.proofs.Common.{flat_map, take}
use Rattle.relay_explain.specs.Buffers.{member_text}
use Rattle.relay_explain.specs.Text.{Adds}
use Rattle.relay_explain.proofs.groups.put_members.Given as goal

-- the names so far are there
abbrev pub invariant-loop-number : goal.invariant-loop-number
invariant-loop-number l =
    Adds l.fn.text l.text
    (flat_map (member_text l.fn.buffers) (take l.number-index l.fn.numbers))
