use Rattle.std.proofs.Common.{arith, ap, length, subst, sym}
use Rattle.peer_session.specs.Chains.{AreChains}
use Rattle.peer_session.specs.Places.{ids_of, open_offers}
use Rattle.peer_session.proofs.TableLemmas.{none_placed}
use Rattle.peer_session.proofs.table.Table.new.Goals as goal

pub returns-clause-table : goal.returns-clause-table
returns-clause-table c =
    let empty = c.in_ok-with_capacity.ensures.items in
    let none = none_placed (ids_of c.in_ok-with_capacity.field-0.items) (ap ids_of empty) in
    record {
      chains = subst (λ places. AreChains (ids_of places) c.in_ok-new.field-0) (sym empty)
          c.in_ok-new.ensures.chains;
      chain_room = c.in_ok-new.ensures.room;
      once = none.0;
      counted = sym (ap (λ places. length (open_offers places)) empty);
      few = omega arith;
      first = none.2;
      within = omega (arith, ap length empty);
      room = c.in_ok-with_capacity.ensures.capacity;
    }
