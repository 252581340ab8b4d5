use Rattle.std.proofs.Common.{◌≡◌, ◌∙◌, sym}
use Rattle.std.specs.Prelude.{is_some}
use Rattle.peer_session.specs.Places.{ids_of, open_ids}
use Rattle.peer_session.proofs.OfferLemmas.{open_alike}
use Rattle.peer_session.proofs.PlaceLemmas.{found_open, is_among}
use Rattle.peer_session.proofs.table.Table.is_open.Goals as goal

pub returns : goal.returns
returns c =
    let found : is_some c.find.result
    ≡ is_among (open_ids (ids_of c.args.self.now.offers.items)) c.args.id.now =
    found_open c.find.result _ _ (λ spot. spot.place)
    (rw c.deref.ensures.value at c.find.ensures.found) in
    c.is_some.ensures ∙ found ∙ sym (open_alike c.args.self.now.offers.items c.args.id.now)
