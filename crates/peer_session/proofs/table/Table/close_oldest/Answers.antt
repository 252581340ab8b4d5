use Rattle.std.proofs.Common.{◌≡◌, ◌<◌, ◌∙◌, [], arith, ap, rules, length, get_or, set, None}
use Rattle.std.proofs.Common.{subst, sym}
use Rattle.std.specs.Prelude.{option_map}
use Rattle.peer_session.specs.Chains.{AreChains}
use Rattle.peer_session.specs.Places.{ids_of, open_offers}
use Rattle.peer_session.specs.declared.chains.Opened.{Opened}
use Rattle.peer_session.proofs.ChainLemmas.{linked_fewer}
use Rattle.peer_session.proofs.OfferLemmas.{as_many_ids, fewer_open, first_offer, ids_set}
use Rattle.peer_session.proofs.OfferLemmas.{none_open, oldest_of, once_ended}
use Rattle.peer_session.proofs.PlaceLemmas.{none_still}
use Rattle.peer_session.proofs.TableLemmas.{matched}
use Rattle.peer_session.proofs.table.Table.close_oldest.Goals as goal

pub returns-then-self-len-clause-closed : goal.returns-then-self-len-clause-closed
returns-then-self-len-clause-closed c =
    let none : open_offers c.args.self.now.offers.items ≡ [] =
    none_open c.args.self.now.offers.items
    (λ j lt. c.requires.first.before j (omega (arith, c.if-self-len.true, c.len.ensures))) in
    (none, none)

pub overflow_sub-self : goal.overflow_sub-self
overflow_sub-self c =
    let places = c.args.self.now.offers.items in
    let had = c.requires.first.first_open
    (omega (arith, c.requires.first.within, as_many_ids c.args.self.now.offers.items)) in
    omega (
      arith,
      c.requires.counted,
      fewer_open c.args.self.now.offers.items c.args.self.now.first had.0 had.1,
    )

pub returns-clause-table : goal.returns-clause-table
returns-clause-table c =
    let places = c.args.self.now.offers.items in
    let had = c.requires.first.first_open
    (omega (arith, c.requires.first.within, as_many_ids c.args.self.now.offers.items)) in
    rw c.take-one.ensures.after (record {
      chains = subst (λ ids. AreChains ids c.args.self.now.chains)
          (sym (ids_set places c.args.self.now.first))
          (linked_fewer c.args.self.now.first c.requires.chains);
      chain_room = c.requires.chain_room;
      once = once_ended places c.args.self.now.first had.0 had.1 c.requires.once;
      counted = omega (
        arith,
        c.requires.counted,
        fewer_open places c.args.self.now.first had.0 had.1,
      );
      few = omega (arith, c.requires.few);
      first = rw (← c.take-one.ensures.after)
          (rw c.deref.ensures.value at c.first_from-self.ensures);
      within = search rules;
      room = search rules;
    })

pub returns-clause-closed : goal.returns-clause-closed
returns-clause-closed c =
    let places = c.args.self.now.offers.items in
    let lt : c.args.self.now.first < length c.args.self.now.offers.items =
    omega (arith, c.requires.first.within, as_many_ids c.args.self.now.offers.items) in
    let taken = first_offer places c.args.self.now.first c.index_mut.result.now c.requires.first lt
    c.index_mut.ensures.value in
    rw c.take-one.ensures.after (matched c.take-one.result taken.0 _ _
    (c.take-one.ensures.value ∙ taken.1.0)
    (oldest_of places c.args.self.now.first taken.0 c.requires.first.before taken.1.1))

pub first_from-self-requires-clause-before : goal.first_from-self-requires-clause-before
first_from-self-requires-clause-before c = λ j lt.
    let places = c.args.self.now.offers.items in
    subst (λ places. get_or (ids_of places) j None ≡ None)
    (sym (c.deref.ensures.value
    ∙ ap (set c.args.self.now.offers.items c.args.self.now.first) c.take-one.ensures.after))
    (ap (λ ids. get_or ids j None) (ids_set places c.args.self.now.first)
    ∙ none_still (ids_of places) c.args.self.now.first j (c.requires.first.before j lt))
