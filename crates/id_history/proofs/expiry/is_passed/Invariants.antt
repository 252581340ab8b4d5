use Rattle.std.proofs.Common.{◌≡◌, length, map}
use Rattle.cyc_token.specs.Token.{token_view}
use Rattle.relay_model.specs.Claims as claims
use Rattle.id_history.specs.Expiry.{passed_view}
use Rattle.id_history.proofs.expiry.is_passed.Given as goal

-- no front so far was of the token's buffer
abbrev pub invariant-loop-one : goal.invariant-loop-one
invariant-loop-one l =
    claims.is_passed (map passed_view l.left) (token_view l.token)
    ≡ claims.is_passed (map passed_view l.fn.fronts) (token_view l.token)

abbrev pub decreases-loop-one : goal.decreases-loop-one
decreases-loop-one l = length l.left
