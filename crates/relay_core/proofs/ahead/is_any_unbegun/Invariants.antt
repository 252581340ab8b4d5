use Rattle.std.proofs.Common.{◌≡◌, length, map}
use Rattle.std.specs.List.{list_any}
use Rattle.cyc_token.specs.Token.{token_view}
use Rattle.cyc_buffer.specs.Filled.{filled_view}
use Rattle.relay_core.specs.Ahead.{is_unbegun}
use Rattle.relay_core.proofs.ahead.is_any_unbegun.Given as goal

-- what is left passes exactly where all does
abbrev pub invariant-loop-token : goal.invariant-loop-token
invariant-loop-token l =
    list_any (is_unbegun (map filled_view l.filled)) (map token_view l.left)
    ≡ list_any (is_unbegun (map filled_view l.filled)) (map token_view l.tokens)

abbrev pub decreases-loop-token : goal.decreases-loop-token
decreases-loop-token l = length l.left
