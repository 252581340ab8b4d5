-- What the answers of a shard stand for in the definitions (docs/PROTOCOL.md, Claims).
use Rattle.relay_model.specs.Claims.{OfferAnswer, TakeAnswer}
use Rattle.relay_model.specs.Claims as claim
use Rattle.cyc_token.specs.declared.Token.{Token}
use Rattle.id_history.specs.declared.claims.Offer.{Offer}
use Rattle.id_history.specs.declared.claims.Offer.TheVariants as offer
use Rattle.id_history.specs.declared.claims.Settled.{Settled}
use Rattle.id_history.specs.declared.claims.Take.{Take}
use Rattle.id_history.specs.declared.claims.Take.TheVariants as take

-- the answer to an offer
abbrev pub offer_view : Offer → OfferAnswer
offer_view offer.Wanted = claim.Wanted
offer_view offer.Later = claim.Later
offer_view offer.Seen = claim.Seen

-- the answer to an accepted article
abbrev pub take_view : Take → TakeAnswer
take_view take.Mine = claim.Mine
take_view take.Held = claim.Held
take_view take.Seen = claim.Had

-- the token under which the article was settled
abbrev pub token_of : Settled → Token
token_of settled = settled.token
