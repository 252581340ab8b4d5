use Rattle.std.proofs.Common.{◌≡◌, ◌∙◌, ap, sym, None, Some, get_or, option_map}
use Rattle.std.proofs.lemmas.List.{get_or_default}
use Rattle.std.proofs.lemmas.Slice.Eq.{bytes_eq-Decides}
use Rattle.std.specs.Prelude.{bytes_eq}
use Rattle.peer_session.specs.Places.{ids_of}
use Rattle.peer_session.specs.declared.chains.Opened.{Opened}
use Rattle.peer_session.proofs.OfferLemmas.{id_at}
use Rattle.peer_session.proofs.chains.is_at.Goals as goal

-- the place has the id of its offer
pub returns-in-Some : goal.returns-in-Some
returns-in-Some c =
    let there : get_or (ids_of c.args.offers.now) c.args.place None ≡ Some c.in-Some.other.id =
    id_at c.args.offers.now c.args.place
    ∙ ap (option_map (λ (one : Opened). one.id))
    (get_or_default c.args.offers.now c.args.place None c.index-offers-place.result c.requires
    ∙ sym c.index-offers-place.is ∙ c.in-Some.is) in
    let told : c.eq.result ≡ bytes_eq c.in-Some.other.id c.args.id.now =
    rw (c.as_bytes.ensures.value, c.as_bytes-in-Some.ensures.value) at c.eq.ensures in (
      λ same. there
          ∙ ap (λ id. Some id)
          ((bytes_eq-Decides c.in-Some.other.id c.args.id.now).0 (sym told ∙ same)),
      λ same.
          let some : Some c.in-Some.other.id ≡ Some c.args.id.now = sym there ∙ same in
          let ids : c.in-Some.other.id ≡ c.args.id.now = cc in
          told ∙ (bytes_eq-Decides c.in-Some.other.id c.args.id.now).1 ids,
    )
