use Rattle.std.proofs.Common.{◌≡◌, ◌<◌, length, arith, rules, inl, inr}
use Rattle.std.proofs.lemmas.Bool.{cases_lt}
use Rattle.peer_session.proofs.OfferLemmas.{as_many_ids, has_none, has_offer}
use Rattle.peer_session.proofs.table.first_from.Goals as goal

pub returns-else-is_none : goal.returns-else-is_none
returns-else-is_none c = record {
  within = omega (arith, c.loop-first.invariant.within, as_many_ids c.args.offers.now);
  before = c.loop-first.invariant.before;
  first_open = λ lt.
      let within : c.loop-first.first < length c.args.offers.now =
      omega (arith, as_many_ids c.args.offers.now) in
      has_offer c.args.offers.now c.loop-first.first c.index-offers-first.result within
      c.index-offers-first.is (search rules);
}

pub loop-first-preserved : goal.loop-first-preserved
loop-first-preserved c = record {
  within = omega arith;
  before = λ j lt. elim (cases_lt j c.loop-first.first) [
    | inl below ↦ c.loop-first.invariant.before j below
    | inr above ↦
        let here : j ≡ c.loop-first.first = omega arith in
        rw here (has_none c.args.offers.now c.loop-first.first c.index-offers-first.result
        c.loop-first-test.true c.index-offers-first.is c.if-is_none.ensures)
  ];
}
