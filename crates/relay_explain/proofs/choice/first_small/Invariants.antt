use Rattle.std.proofs.Common.{◌≡◌, drop}
use Rattle.relay_explain.specs.Choice.{first_small}
use Rattle.relay_explain.proofs.choice.first_small.Given as goal

-- no buffer so far is too small
abbrev pub invariant-loop-number : goal.invariant-loop-number
invariant-loop-number l =
    first_small l.buffers (drop l.number-index l.numbers) l.size
    ≡ first_small l.buffers l.numbers l.size
