use Rattle.std.proofs.Common.{◌≡◌, ◌++◌, drop}
use Rattle.relay_adding.specs.Telling.{added_lines}
use Rattle.relay_adding.proofs.text.put_lines.Given as goal

-- with the lines that are left all will be there
abbrev pub invariant-loop-number : goal.invariant-loop-number
invariant-loop-number l =
    l.text.items ++ added_lines l.number l.stop (drop l.number l.buffers)
    ≡ l.fn.text.items ++ added_lines l.first l.stop (drop l.first l.buffers)
