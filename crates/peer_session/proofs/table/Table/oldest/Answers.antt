use Rattle.std.proofs.Common.{◌≡◌, ◌<◌, ◌∙◌, ◌∷◌, List, ℕ, arith, length, set, None}
use Rattle.relay_model.specs.State.{OpenOffer}
use Rattle.peer_session.specs.Places.{offer_view, open_offers}
use Rattle.peer_session.specs.declared.chains.Opened.{Opened}
use Rattle.peer_session.proofs.OfferLemmas.{as_many_ids, first_offer, none_open, oldest_of}
use Rattle.peer_session.proofs.TableLemmas.{shown}
use Rattle.peer_session.proofs.table.Table.oldest.Goals as goal

pub returns-then-self-len : goal.returns-then-self-len
returns-then-self-len c = none_open c.args.self.now.offers.items
    (λ j lt. c.requires.first.before j (omega (arith, c.if-self-len.true, c.len.ensures)))

pub returns : goal.returns
returns c =
    let places = c.args.self.now.offers.items in
    let lt : c.args.self.now.first < length c.args.self.now.offers.items =
    omega (arith, c.requires.first.within, as_many_ids c.args.self.now.offers.items) in
    let first = first_offer places c.args.self.now.first c.index.result.now c.requires.first lt
    c.index.ensures in
    shown c.as_ref.result first.0 _
    (λ (one : Opened). (rest : List OpenOffer) × (open_offers places ≡ offer_view one ∷ rest))
    (c.as_ref.ensures.value ∙ first.1.0) (
      open_offers (set places c.args.self.now.first None),
      oldest_of places c.args.self.now.first first.0 c.requires.first.before first.1.1,
    )
