use Rattle.relay_laws.proofs.OpenOffers.{offers_are_open}
use Rattle.relay_laws.proofs.claims.offers_are_open.Goals as goal

pub returns : goal.returns
returns c = offers_are_open
