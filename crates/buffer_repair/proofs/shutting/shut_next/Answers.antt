use Rattle.std.proofs.Common.{◌∙◌, arith, sym}
use Rattle.buffer_repair.proofs.Shut.{fails_next, gives_next, shuts_next}
use Rattle.buffer_repair.proofs.shutting.shut_next.Goals as goal

pub returns-then-is_some : goal.returns-then-is_some
returns-then-is_some g c = record {
  shuts = λ before had.
      gives_next c.args.stop c.args.one before c.args.stores.now.items c.args.failed
      c.into_store.result c.push_reserved.new.self.items
      (sym c.is_some.ensures ∙ c.if-is_some.true) c.into_store.ensures c.push_reserved.ensures.items
      had;
  count = c.push_reserved.ensures.len;
  room = c.push_reserved.ensures.capacity;
}

pub returns-in-Ok : goal.returns-in-Ok
returns-in-Ok g c = record {
  shuts = λ before had.
      shuts_next c.args.stop c.args.one before c.args.stores.now.items c.args.failed
      c.in-Ok.store c.push_reserved-in-Ok.new.self.items
      (sym c.is_some.ensures ∙ c.if-is_some.false) c.push_reserved-in-Ok.ensures.items
      (record {
        held = c.in-Ok.ensures.held;
        rest = c.in-Ok.ensures.rest;
        left = c.in-Ok.ensures.leaves;
        calls = c.in-Ok.ensures.calls;
        no_failure = c.in-Ok.ensures.no_failure;
      }) had;
  count = c.push_reserved-in-Ok.ensures.len;
  room = c.push_reserved-in-Ok.ensures.capacity;
}

pub returns : goal.returns
returns g c = record {
  shuts = λ before had.
      fails_next c.args.stop c.args.one before c.args.stores.now.items c.args.failed
      c.in-Err.unshut.error c.in-Err.unshut.buffer c.into_store-in-Err.result
      c.push_reserved-in-Err.new.self.items c.len-place.result
      (sym c.is_some.ensures ∙ c.if-is_some.false) c.requires.idle c.in-Err.ensures.refusal
      c.in-Err.ensures.left c.in-Err.ensures.order c.in-Err.ensures.leaves_refused
      (omega (arith, c.len-place.ensures, c.args.stores.now.ok)) c.into_store-in-Err.ensures
      c.push_reserved-in-Err.ensures.items had;
  count = c.push_reserved-in-Err.ensures.len;
  room = c.push_reserved-in-Err.ensures.capacity;
}
