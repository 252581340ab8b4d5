-- What an offer comes to while a relay takes no new articles (docs/PROTOCOL.md, `pause` and `go`).
use Rattle.std.specs.Prelude.{ℕ, Bool, true, false}
use Rattle.relay_model.specs.Claims.{Claim, OfferAnswer, Wanted, Later, Seen}
use Rattle.relay_model.specs.Claims.{after_offer, after_release}

-- what was wanted is to come later (RFC 4644 section 2.4, RFC 3977 section 6.3.2); what is known
-- stays so
abbrev pub put_off : OfferAnswer → OfferAnswer
put_off Wanted = Later
put_off Later = Later
put_off Seen = Seen

-- what an offer is answered that would be answered this: while no new articles are taken none is
-- wanted
abbrev pub answer_while : (paused : Bool) → OfferAnswer → OfferAnswer
answer_while true answer = put_off answer
answer_while false answer = answer

-- what is known of a message-id behind an offer of this session: while no new articles are taken
-- nothing is claimed by that, and an offer that the session had open ends
abbrev pub after_while : (paused : Bool) → (s now : ℕ) → Claim → Claim
after_while true s now claim = after_release s claim
after_while false s now claim = after_offer s now claim
