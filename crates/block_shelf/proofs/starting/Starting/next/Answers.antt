use Rattle.std.proofs.Common.{arith}
use Rattle.block_shelf.proofs.Starts.{refused_before}
use Rattle.block_shelf.proofs.starting.Starting.next.Goals as goal

pub returns-in-Refused : goal.returns-in-Refused
returns-in-Refused g c = record {
  tries = λ before had.
      let was = rw c.in-Refused.is at had in
      rw c.push_reserved.ensures.items (
        was.0,
        was.1,
        (
          refused_before g.S.BlockStore before c.args.store was.0 c.in-Refused.stores.items was.2.0,
          was.2.1,
        ),
      );
  count =
      rw c.in-Refused.is (omega (arith, c.push_reserved.ensures.len));
  room =
      rw c.in-Refused.is (omega (arith, c.push_reserved.ensures.capacity));
}

pub push_reserved-requires : goal.push_reserved-requires
push_reserved-requires g c = rw c.in-Refused.is at c.requires.room

pub next_started-requires-clause-few : goal.next_started-requires-clause-few
next_started-requires-clause-few g c = omega (arith, rw c.in-Started.is at c.requires.few)

pub next_started-requires-clause-buffers_room : goal.next_started-requires-clause-buffers_room
next_started-requires-clause-buffers_room g c =
    omega (arith, rw c.in-Started.is at c.requires.room)

pub next_started-requires-clause-stores_room : goal.next_started-requires-clause-stores_room
next_started-requires-clause-stores_room g c =
    omega (arith, rw c.in-Started.is at c.requires.room)

pub returns-in-Started : goal.returns-in-Started
returns-in-Started g c = record {
  tries = λ before had.
      let was = rw c.in-Started.is at had in
      c.next_started.ensures.tries before was.0 was.1 was.2;
  count = rw c.in-Started.is c.next_started.ensures.count;
  room = rw c.in-Started.is c.next_started.ensures.room;
}
