use Rattle.std.proofs.Common.{◌≡◌, ◌∙◌, ◌++◌, ◌∷◌, [], ap, arith, rules, subst, sym, length-append}
use Rattle.std.proofs.Common.{Some}
use Rattle.peer_session.specs.Chains.{AreChains}
use Rattle.peer_session.specs.Places.{ids_of, offer_view, open_ids, open_offers}
use Rattle.peer_session.proofs.OfferLemmas.{ids_more, more_open, open_alike}
use Rattle.peer_session.proofs.PlaceLemmas.{one_more, once_more}
use Rattle.peer_session.proofs.TableLemmas.{first_more}
use Rattle.peer_session.proofs.table.Table.push.Goals as goal

pub returns-clause-table : goal.returns-clause-table
returns-clause-table c =
    let places = c.args.self.now.offers.items in
    let one = c.args.one in
    let ids : ids_of (c.args.self.now.offers.items ++ Some c.args.one ∷ [])
    ≡ ids_of c.args.self.now.offers.items ++ Some c.args.one.id ∷ [] =
    ids_more c.args.self.now.offers.items c.args.one in
    let more : open_ids (ids_of (c.args.self.now.offers.items ++ Some c.args.one ∷ []))
    ≡ open_ids (ids_of c.args.self.now.offers.items) ++ c.args.one.id ∷ [] =
    ap open_ids (ids_more c.args.self.now.offers.items c.args.one)
    ∙ one_more (ids_of c.args.self.now.offers.items) c.args.one.id in
    record {
      chains = rw (c.push_reserved.ensures.items, ids) (c.add.ensures.chains (ids_of places)
          (Some one.id) c.requires.table.chains (λ octets e. search rules));
      chain_room = c.add.ensures.room;
      once = rw (c.push_reserved.ensures.items, more)
          (once_more (open_ids (ids_of places)) one.id
          (sym (open_alike places one.id) ∙ c.requires.new) c.requires.table.once);
      counted = rw (c.push_reserved.ensures.items, more_open places one) (omega (
        arith,
        c.requires.table.counted,
        length-append (open_offers places) (offer_view one ∷ []),
      ));
      few = omega (arith, c.requires.few);
      first = rw (c.push_reserved.ensures.items, ids)
          (first_more (ids_of places) c.args.self.now.first one.id c.requires.table.first);
      within = search rules;
      room = search rules;
    }

pub returns-clause-opened : goal.returns-clause-opened
returns-clause-opened c =
    rw c.push_reserved.ensures.items (more_open c.args.self.now.offers.items c.args.one)
