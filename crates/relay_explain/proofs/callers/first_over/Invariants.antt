use Rattle.std.proofs.Common.{◌≡◌, drop}
use Rattle.relay_explain.specs.Callers.{first_over}
use Rattle.relay_explain.proofs.callers.first_over.Given as goal

-- beside none so far it says nothing new
abbrev pub invariant-loop-other : goal.invariant-loop-other
invariant-loop-other l =
    first_over (drop l.other-index l.all) l.said ≡ first_over l.all l.said
