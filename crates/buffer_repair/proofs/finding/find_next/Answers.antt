use Rattle.std.proofs.Common.{◌≡◌, ◌∙◌, false, ap, arith, length}
use Rattle.std.proofs.lemmas.List.Elements.{All-push}
use Rattle.block_shelf.proofs.EachLemmas.{one_more_each}
use Rattle.block_shelf.proofs.GivenBack.{count_given}
use Rattle.block_shelf.specs.Starting.{number_told}
use Rattle.cyc_buffer.specs.Agreement.{buffer_state_of}
use Rattle.cyc_buffer.specs.Head.{is_busy}
use Rattle.buffer_repair.proofs.Recovered.{first_unfound, history_over, place_over}
use Rattle.buffer_repair.specs.Finding.{IsFoundOver}
use Rattle.buffer_repair.specs.Parts.{buffer_in, store_in}
use Rattle.buffer_repair.proofs.finding.find_next.Goals as goal

pub returns-in-Ok : goal.returns-in-Ok
returns-in-Ok g c = record {
  tries = λ before are none.
      let number : c.len-number.result ≡ length before =
      omega (arith, c.len-number.ensures, c.args.found.ok, are.count) in
      rw c.push_reserved.ensures.items (
        one_more_each IsFoundOver before c.args.found.items c.args.store c.in-Ok.one are
            (rw (← number) (record {
              found = c.in-Ok.ensures.found;
              front = c.in-Ok.ensures.front;
              stop = c.in-Ok.ensures.stop;
              place = λ sure some. place_over g.S.BlockStore c.len-number.result c.args.store
                  c.in-Ok.one _ _
                  (c.in-Ok.ensures.history sure some
                  (buffer_state_of (buffer_in c.in-Ok.one)).line.cycle
                  (buffer_state_of (buffer_in c.in-Ok.one)).line.used
                  (c.in-Ok.ensures.front sure));
              history = λ sure some. history_over g.S.BlockStore c.len-number.result c.args.store
                  c.in-Ok.one (c.in-Ok.ensures.same.blocks sure)
                  (c.in-Ok.ensures.history sure some
                  (buffer_state_of (buffer_in c.in-Ok.one)).line.cycle
                  (buffer_state_of (buffer_in c.in-Ok.one)).line.used
                  (c.in-Ok.ensures.front sure));
              agrees = c.in-Ok.ensures.agrees;
              listed = c.in-Ok.ensures.tokens;
              kept = c.in-Ok.ensures.kept;
              begun = c.in-Ok.ensures.begun;
              starts = c.in-Ok.ensures.listed;
              within = c.in-Ok.ensures.within;
              unopened = c.in-Ok.ensures.unopened;
              idle = c.in-Ok.ensures.idle;
              under = c.in-Ok.ensures.under;
              held = c.in-Ok.ensures.same;
              calls = c.in-Ok.ensures.calls;
              no_failure = c.in-Ok.ensures.no_failure;
            })),
        none,
      );
  idle = rw c.push_reserved.ensures.items
      (All-push (λ x. is_busy (buffer_in x) ≡ false) c.args.found.items c.in-Ok.one
      c.requires.idle c.in-Ok.ensures.idle);
  count = omega (arith, c.push_reserved.ensures.len);
  room = omega (arith, c.push_reserved.ensures.capacity);
}

pub returns-in-Err : goal.returns-in-Err
returns-in-Err g c = record {
  tries = λ before are none.
      let number : c.len-number.result ≡ length before =
      omega (arith, c.len-number.ensures, c.args.found.ok, are.count) in
      let error = c.in-Err.refused.error in
      rw (c.push_reserved-in-Err.ensures.items, c.give_found-stores.ensures.items, none) (
        error,
        c.fault_of.ensures,
        (
          first_unfound g.S.BlockStore before c.args.store c.args.found.items error
              c.in-Err.refused.store are c.in-Err.ensures.rest
              c.in-Err.ensures.failed (rw number at c.in-Err.ensures.reason),
          c.blamed.ensures ∙ ap (number_told error) number,
        ),
      );
  idle = tt;
  count = omega (
    arith,
    c.args.found.ok,
    c.args.room.ok,
    c.give_found-stores.result.ok,
    c.push_reserved-in-Err.ensures.len,
    count_given (λ one. store_in one) c.args.found.items c.args.room.items
        c.give_found-stores.result.items c.give_found-stores.ensures.items,
  );
  room = omega (
    arith,
    c.push_reserved-in-Err.ensures.capacity,
    c.give_found-stores.ensures.capacity,
  );
}

pub push_reserved-requires-in-Err : goal.push_reserved-requires-in-Err
push_reserved-requires-in-Err g c = omega (
  arith,
  c.requires.stores_room,
  c.args.found.ok,
  c.args.room.ok,
  c.give_found-stores.result.ok,
  c.give_found-stores.ensures.capacity,
  count_given (λ one. store_in one) c.args.found.items c.args.room.items
      c.give_found-stores.result.items c.give_found-stores.ensures.items,
)
