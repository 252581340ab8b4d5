use Rattle.std.proofs.Common.{◌≡◌, ◌++◌, map, take}
use Rattle.relay_metrics.specs.Exposition.{joined}
use Rattle.relay_metrics.proofs.written.put.Given as goal

-- the texts so far are there
abbrev pub invariant-loop-part : goal.invariant-loop-part
invariant-loop-part l =
    l.text.items
    ≡ l.fn.text.items ++ joined (map (λ part. part.now) (take l.part-index l.parts))
