use Rattle.std.proofs.Common.{◌≡◌, length, map}
use Rattle.id_history.specs.Conditions.{are_there}
use Rattle.cyc_token.specs.Token.{token_view}
use Rattle.id_history.proofs.conditions.are_there.Given as goal

-- what is left passes exactly where all does
abbrev pub invariant-loop-token : goal.invariant-loop-token
invariant-loop-token l =
    are_there l.buffers (map token_view l.left) ≡ are_there l.buffers (map token_view l.tokens)

abbrev pub decreases-loop-token : goal.decreases-loop-token
decreases-loop-token l = length l.left
