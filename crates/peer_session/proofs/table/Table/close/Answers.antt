use Rattle.std.proofs.Common.{◌≡◌, ◌∙◌, sym, subst, ap, arith, rules, get_or, None, Some}
use Rattle.peer_session.specs.Chains.{AreChains}
use Rattle.peer_session.specs.Places.{ids_of, open_offers}
use Rattle.peer_session.proofs.OfferLemmas.{ended_one, fewer_open, ids_set, kept_open, once_ended}
use Rattle.peer_session.proofs.OfferLemmas.{open_alike}
use Rattle.peer_session.proofs.PlaceLemmas.{closed_nowhere, none_still}
use Rattle.peer_session.proofs.table.Table.close.Goals as goal

pub overflow_sub-self : goal.overflow_sub-self
overflow_sub-self c = omega (
  arith,
  c.requires.counted,
  fewer_open c.args.self.now.offers.items c.in-Some.spot.place c.args.id.now
      (rw c.deref.ensures.value at c.in-Some.ensures.found),
)

pub returns-in-Some-clause-table : goal.returns-in-Some-clause-table
returns-in-Some-clause-table c =
    let places = c.args.self.now.offers.items in
    let found : get_or (ids_of c.args.self.now.offers.items) c.in-Some.spot.place None
    ≡ Some c.args.id.now = rw c.deref.ensures.value at c.in-Some.ensures.found in
    record {
      chains = subst (λ ids. AreChains ids c.remove.new.self)
          (sym (ids_set places c.in-Some.spot.place))
          (c.remove.ensures.chains (ids_of places) c.requires.chains);
      chain_room = c.remove.ensures.room;
      once = once_ended places c.in-Some.spot.place c.args.id.now found c.requires.once;
      counted = omega (
        arith,
        c.requires.counted,
        fewer_open places c.in-Some.spot.place c.args.id.now found,
      );
      few = omega (arith, c.requires.few);
      first = rw c.deref-in-Some.ensures.value at c.first_from-self.ensures;
      within = search rules;
      room = search rules;
    }

pub returns-in-Some-clause-closed : goal.returns-in-Some-clause-closed
returns-in-Some-clause-closed c =
    sym (ended_one c.args.self.now.offers.items c.in-Some.spot.place c.args.id.now
    (rw c.deref.ensures.value at c.in-Some.ensures.found) c.requires.once)

pub returns-in_default-clause-closed : goal.returns-in_default-clause-closed
returns-in_default-clause-closed c =
    let places = c.args.self.now.offers.items in
    sym (kept_open (open_offers places) c.args.id.now
    (open_alike places c.args.id.now
    ∙ closed_nowhere (ids_of places) c.args.id.now
    (rw c.deref.ensures.value at c.in_default.ensures.found)))

pub first_from-self-requires-clause-before : goal.first_from-self-requires-clause-before
first_from-self-requires-clause-before c = λ j lt.
    let places = c.args.self.now.offers.items in
    subst (λ places. get_or (ids_of places) j None ≡ None) (sym c.deref-in-Some.ensures.value)
    (ap (λ ids. get_or ids j None) (ids_set places c.in-Some.spot.place)
    ∙ none_still (ids_of places) c.in-Some.spot.place j (c.requires.first.before j lt))
