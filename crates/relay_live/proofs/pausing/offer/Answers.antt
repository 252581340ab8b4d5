use Rattle.relay_live.proofs.Pauses.{released_once}
use Rattle.relay_live.proofs.pausing.offer.Goals as goal

-- the offer that ends at once changes nothing of what its end does
pub returns-then-paused-clause-claims : goal.returns-then-paused-clause-claims
returns-then-paused-clause-claims c = λ claims keeps.
    rw c.if-paused.true
    (released_once c.release.new.self claims c.args.id.now c.args.lasting c.args.session
    c.args.now (c.release.ensures _ (c.in_ok-offer.ensures.claims claims keeps)))
