use Rattle.relay_live.proofs.Refusals.{refused_once}
use Rattle.relay_live.proofs.refusing.refuse.Goals as goal

-- the offer behind which the refusal stands changes nothing of what that does
pub returns-clause-claims : goal.returns-clause-claims
returns-clause-claims c claims keeps =
    refused_once c.refuse.new.self claims c.args.id.now c.args.lasting c.args.session c.args.now
    (c.in_ok-refuse.ensures.claims _ (c.in_ok-offer.ensures.claims claims keeps))
