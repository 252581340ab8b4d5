use Rattle.std.proofs.Common.{arith}
use Rattle.cyc_buffer.specs.Agreement.{store_of}
use Rattle.block_shelf.proofs.EachLemmas.{each_so, one_more_each}
use Rattle.block_shelf.proofs.GivenBack.{count_given}
use Rattle.block_shelf.proofs.Opens.{behind_failed, first_failed}
use Rattle.block_shelf.specs.Heads.{IsOpenedOf}
use Rattle.block_shelf.proofs.opening.Opening.next.Goals as goal

pub returns-in-Failed : goal.returns-in-Failed
returns-in-Failed g c = record {
  opens = λ before had.
      rw (c.push_reserved.ensures.items, c.into_store.ensures)
      (behind_failed before c.args.unopened c.in-Failed.place c.in-Failed.stores.items
      (rw c.in-Failed.is at had));
  count = rw c.in-Failed.is (omega (arith, c.push_reserved.ensures.len));
  room =
      rw c.in-Failed.is (omega (arith, c.push_reserved.ensures.capacity));
}

pub returns-in-Ok : goal.returns-in-Ok
returns-in-Ok g c = record {
  opens = λ before had.
      let was = rw c.in-Opened.is at had in
      rw c.push_reserved-in-Ok.ensures.items (
        one_more_each IsOpenedOf before c.in-Opened.buffers.items c.args.unopened c.in-Ok.buffer
            was.0 (record {
              is_from = assumption c.in-Ok.ensures;
              blocks = c.in-Ok.ensures.blocks;
            }),
        was.1,
      );
  count =
      rw c.in-Opened.is (omega (arith, c.push_reserved-in-Ok.ensures.len));
  room =
      rw c.in-Opened.is (omega (arith, c.push_reserved-in-Ok.ensures.capacity));
}

pub returns-in-Err : goal.returns-in-Err
returns-in-Err g c = record {
  opens = λ before had.
      let was = rw c.in-Opened.is at had in
      rw (
        c.push_reserved-in-Err.ensures.items,
        c.give_up-stores.ensures.items,
        c.into_store-in-Err.ensures,
      )
      (first_failed before c.args.unopened c.in-Opened.buffers.items c.in-Opened.room.items
      c.len-place.result c.in-Err.unopened
      (each_so was.0 (λ b one code there at opened. opened.is_from)) was.1
      (omega (arith, c.len-place.ensures, c.in-Opened.buffers.ok)) c.in-Err.ensures.failed);
  count = rw c.in-Opened.is (omega (
    arith,
    c.in-Opened.buffers.ok,
    c.in-Opened.room.ok,
    c.give_up-stores.result.ok,
    c.push_reserved-in-Err.ensures.len,
    count_given (λ one. store_of one) c.in-Opened.buffers.items c.in-Opened.room.items
        c.give_up-stores.result.items c.give_up-stores.ensures.items,
  ));
  room = rw c.in-Opened.is (omega (
    arith,
    c.push_reserved-in-Err.ensures.capacity,
    c.give_up-stores.ensures.capacity,
  ));
}

pub push_reserved-requires : goal.push_reserved-requires
push_reserved-requires g c = rw c.in-Failed.is at c.requires

pub push_reserved-requires-in-Ok : goal.push_reserved-requires-in-Ok
push_reserved-requires-in-Ok g c = omega (arith, rw c.in-Opened.is at c.requires)

pub give_up-stores-requires : goal.give_up-stores-requires
give_up-stores-requires g c = omega (arith, rw c.in-Opened.is at c.requires)

pub push_reserved-requires-in-Err : goal.push_reserved-requires-in-Err
push_reserved-requires-in-Err g c = omega (
  arith,
  rw c.in-Opened.is at c.requires,
  c.in-Opened.buffers.ok,
  c.in-Opened.room.ok,
  c.give_up-stores.result.ok,
  c.give_up-stores.ensures.capacity,
  count_given (λ one. store_of one) c.in-Opened.buffers.items c.in-Opened.room.items
      c.give_up-stores.result.items c.give_up-stores.ensures.items,
)
