use Rattle.std.proofs.Common.{map, take}
use Rattle.relay_explain.specs.Lines.{joined}
use Rattle.relay_explain.specs.Text.{Adds}
use Rattle.relay_explain.proofs.text.put.Given as goal

-- the texts so far are there
abbrev pub invariant-loop-part : goal.invariant-loop-part
invariant-loop-part l =
    Adds l.fn.text l.text
    (joined (map (λ part. part.now) (take l.part-index l.parts)))
