use Rattle.std.proofs.Common.{◌≡◌, ◌∙◌, ap, arith, length}
use Rattle.cyc_buffer.specs.Agreement.{store_of}
use Rattle.cyc_buffer.specs.Head.{inside}
use Rattle.block_shelf.proofs.EachLemmas.{one_more_each}
use Rattle.block_shelf.proofs.GivenBack.{count_given}
use Rattle.block_shelf.proofs.Starts.{first_refused, other_more}
use Rattle.block_shelf.specs.Starting.{IsStartedOver, number_told}
use Rattle.block_shelf.proofs.starting.next_started.Goals as goal

pub returns-in-Ok : goal.returns-in-Ok
returns-in-Ok g c = record {
  tries = λ before are none first.
      let number : c.len-number.result ≡ length before =
      omega (arith, c.len-number.ensures, c.args.buffers.ok, are.count) in
      let one = c.in-Ok.started.buffer in
      rw c.push_reserved.ensures.items (
        one_more_each IsStartedOver before c.args.buffers.items c.args.store one are
            (rw (← number) (record {
              agrees = c.in-Ok.ensures.agrees;
              stop = λ yes stop h held.
                  c.in-Ok.ensures.under ∙ c.in-Ok.ensures.stop yes stop h held;
              tokens = c.in-Ok.started.tokens.items;
              starts = rw c.in-Ok.ensures.under c.in-Ok.ensures.started;
              said = rw c.in-Ok.ensures.under c.in-Ok.ensures.said;
              calls = c.in-Ok.ensures.calls;
              no_failure = c.in-Ok.ensures.no_failure;
              unopened_head = c.in-Ok.ensures.unopened;
              idle = c.in-Ok.ensures.idle;
              held = c.in-Ok.ensures.same;
            })),
        none,
        rw c.first_other-mixed.ensures
            (other_more c.args.stop c.args.buffers.items one c.args.mixed c.in-Ok.started.stop
            c.len-number.result first c.in-Ok.ensures.under
            (omega (arith, c.len-number.ensures, c.args.buffers.ok))),
      );
  count = omega (arith, c.push_reserved.ensures.len);
  room = omega (arith, c.push_reserved.ensures.capacity);
}

pub returns-in-Err : goal.returns-in-Err
returns-in-Err g c = record {
  tries = λ before are none first.
      let number : c.len-number.result ≡ length before =
      omega (arith, c.len-number.ensures, c.args.buffers.ok, are.count) in
      let store = c.args.store in
      let error = c.in-Err.refused.error in
      rw (c.push_reserved-in-Err.ensures.items, c.give_back-stores.ensures.items, none) (
        error,
        c.fault_of.ensures,
        (
          first_refused g.S.BlockStore before store c.args.buffers.items error
              c.in-Err.refused.store are
              (assumption c.in-Err.ensures)
              c.in-Err.ensures.failed (rw number at c.in-Err.ensures.reason)
              (rw number at c.in-Err.ensures.held),
          c.blamed.ensures ∙ ap (number_told error) number,
        ),
      );
  count = omega (
    arith,
    c.args.buffers.ok,
    c.args.room.ok,
    c.give_back-stores.result.ok,
    c.push_reserved-in-Err.ensures.len,
    count_given (λ one. store_of (inside one)) c.args.buffers.items c.args.room.items
        c.give_back-stores.result.items c.give_back-stores.ensures.items,
  );
  room = omega (
    arith,
    c.push_reserved-in-Err.ensures.capacity,
    c.give_back-stores.ensures.capacity,
  );
}

pub push_reserved-requires-in-Err : goal.push_reserved-requires-in-Err
push_reserved-requires-in-Err g c = omega (
  arith,
  c.requires.stores_room,
  c.args.buffers.ok,
  c.args.room.ok,
  c.give_back-stores.result.ok,
  c.give_back-stores.ensures.capacity,
  count_given (λ one. store_of (inside one)) c.args.buffers.items c.args.room.items
      c.give_back-stores.result.items c.give_back-stores.ensures.items,
)
