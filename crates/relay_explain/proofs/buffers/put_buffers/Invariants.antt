use Rattle.std.proofs.Common.{flat_map, map, take}
use Rattle.std.specs.List.{enumerate_from}
use Rattle.relay_explain.specs.Buffers.{buffer_text}
use Rattle.relay_explain.specs.Text.{Adds}
use Rattle.relay_explain.proofs.buffers.put_buffers.Given as goal

-- what is told of the buffers so far is there
abbrev pub invariant-loop-number : goal.invariant-loop-number
invariant-loop-number l =
    Adds l.fn.text l.text
    (flat_map
    (buffer_text l.fn.config (map (λ line. line.now) l.fn.lines) l.fn.found)
    (take l.number (enumerate_from 0 l.fn.config.buffers.buffers.items)))
