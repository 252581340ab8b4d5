use Rattle.std.proofs.Common.{arith}
use Rattle.buffer_repair.proofs.Recovered.{unfound_before}
use Rattle.buffer_repair.proofs.finding.Finding.next.Goals as goal

pub returns-in-Refused : goal.returns-in-Refused
returns-in-Refused g c = record {
  tries = λ before had.
      let was = rw c.in-Refused.is at had in
      rw c.push_reserved.ensures.items (
        was.0,
        was.1,
        (
          unfound_before g.S.BlockStore before c.args.store was.0 c.in-Refused.stores.items was.2.0,
          was.2.1,
        ),
      );
  idle = tt;
  count =
      rw c.in-Refused.is (omega (arith, c.push_reserved.ensures.len));
  room =
      rw c.in-Refused.is (omega (arith, c.push_reserved.ensures.capacity));
}

pub push_reserved-requires : goal.push_reserved-requires
push_reserved-requires g c = rw c.in-Refused.is at c.requires.room

pub find_next-requires-clause-few : goal.find_next-requires-clause-few
find_next-requires-clause-few g c = omega (arith, rw c.in-Found.is at c.requires.few)

pub find_next-requires-clause-found_room : goal.find_next-requires-clause-found_room
find_next-requires-clause-found_room g c =
    omega (arith, rw c.in-Found.is at c.requires.room)

pub find_next-requires-clause-stores_room : goal.find_next-requires-clause-stores_room
find_next-requires-clause-stores_room g c =
    omega (arith, rw c.in-Found.is at c.requires.room)

pub find_next-requires-clause-idle : goal.find_next-requires-clause-idle
find_next-requires-clause-idle g c = rw c.in-Found.is at c.requires.idle

pub returns-in-Found : goal.returns-in-Found
returns-in-Found g c = record {
  tries = λ before had.
      let was = rw c.in-Found.is at had in
      c.find_next.ensures.tries before was.0 was.1;
  idle = c.find_next.ensures.idle;
  count = rw c.in-Found.is c.find_next.ensures.count;
  room = rw c.in-Found.is c.find_next.ensures.room;
}
