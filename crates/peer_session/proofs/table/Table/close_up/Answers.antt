use Rattle.std.proofs.Common.{◌≡◌, ◌∙◌, arith, rules, length, ap}
use Rattle.std.specs.Prelude.{filter, is_some}
use Rattle.std.proofs.lemmas.Fn.{filter_same}
use Rattle.peer_session.specs.Places.{ids_of, open_ids, open_offers}
use Rattle.peer_session.proofs.OfferLemmas.{as_many_ids, as_many_open, ids_kept, still_open}
use Rattle.peer_session.proofs.PlaceLemmas.{closed_up, as_many}
use Rattle.peer_session.proofs.TableLemmas.{first_zero}
use Rattle.peer_session.proofs.table.Table.close_up.Goals as goal

pub returns-clause-table : goal.returns-clause-table
returns-clause-table c =
    let places = c.args.self.now.offers.items in
    let kept : c.retain.new.self.items ≡ filter is_some c.args.self.now.offers.items =
    filter_same _ _ _ (λ x b f' k. search rules) _ _ c.retain.ensures.filtered in
    let same : open_ids (ids_of c.retain.new.self.items)
    ≡ open_ids (ids_of c.args.self.now.offers.items) =
    ap (λ all. open_ids (ids_of all)) kept ∙ ap open_ids (ids_kept places)
    ∙ closed_up (ids_of places) in
    let offers : open_offers c.retain.new.self.items ≡ open_offers c.args.self.now.offers.items =
    ap open_offers kept ∙ still_open places in
    record {
      chains = rw c.deref.ensures.value at c.chain_all.ensures.chains;
      chain_room = c.chain_all.ensures.room;
      once = rw same c.requires.once;
      counted = rw offers c.requires.counted;
      few = c.requires.few;
      first = rw (kept, ids_kept places) (first_zero (ids_of places));
      within = search rules;
      room = search rules;
    }

pub returns-clause-same : goal.returns-clause-same
returns-clause-same c =
    let kept : c.retain.new.self.items ≡ filter is_some c.args.self.now.offers.items =
    filter_same _ _ _ (λ x b f' k. search rules) _ _ c.retain.ensures.filtered in
    ap open_offers kept ∙ still_open c.args.self.now.offers.items

pub returns-clause-len : goal.returns-clause-len
returns-clause-len c =
    let places = c.args.self.now.offers.items in
    let kept : c.retain.new.self.items ≡ filter is_some c.args.self.now.offers.items =
    filter_same _ _ _ (λ x b f' k. search rules) _ _ c.retain.ensures.filtered in
    omega (
      arith,
      ap length kept,
      as_many_ids (filter is_some c.args.self.now.offers.items),
      ap length (ids_kept c.args.self.now.offers.items),
      as_many (ids_of c.args.self.now.offers.items),
      as_many_open c.args.self.now.offers.items,
      c.requires.counted,
    )
