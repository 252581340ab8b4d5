use Rattle.std.proofs.Common.{◌∙◌, ap, refl, sym, List, None, Some}
use Rattle.std.proofs.lemmas.Bool.{cond-true}
use Rattle.relay_model.specs.Asks.{run_out}
use Rattle.relay_model.specs.Claims.{has_run_out}
use Rattle.relay_model.specs.State.{OpenOffer}
use Rattle.peer_session.specs.Places.{offer_view}
use Rattle.peer_session.proofs.offers.OpenOffers.oldest_ended.Goals as goal

-- the oldest one, which has run out
pub returns-then-has_run_out : goal.returns-then-has_run_out
returns-then-has_run_out c =
    let one = c.in_ok-one.one.now in
    let oldest = c.in_ok-one.ensures in
    let ended : OpenOffer × List OpenOffer = (offer_view one, oldest.0) in (
      ended,
      ap (run_out c.args.lasting c.args.now) (sym c.self.view_is ∙ oldest.1)
          ∙ cond-true (has_run_out c.args.lasting one.since c.args.now) (Some ended) None
          (sym c.has_run_out.ensures ∙ c.if-has_run_out.true),
      refl,
    )
