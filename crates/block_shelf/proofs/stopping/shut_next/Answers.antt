use Rattle.std.proofs.Common.{◌∙◌, arith, sym}
use Rattle.cyc_buffer.specs.Agreement.{store_of}
use Rattle.block_shelf.proofs.Stops.{fails_next, leaves_next, leaves_same, stays_failed, stops_next}
use Rattle.block_shelf.proofs.stopping.shut_next.Goals as goal

pub returns-then-is_some : goal.returns-then-is_some
returns-then-is_some g c = record {
  stops = λ before idle had.
      stays_failed c.args.stop c.args.buffer before c.args.stores.now.items c.args.failed
      c.into_store.result c.push_reserved.new.self.items
      (sym c.is_some.ensures ∙ c.if-is_some.true) c.into_store.ensures c.push_reserved.ensures.items
      had;
  leaves =
      leaves_next c.args.buffer c.args.stores.now.items c.push_reserved.new.self.items
      c.into_store.result c.push_reserved.ensures.items
      (leaves_same g.S.BlockStore (store_of c.args.buffer) c.into_store.result
      c.into_store.ensures);
  count = c.push_reserved.ensures.len;
  room = c.push_reserved.ensures.capacity;
}

pub returns-in-Ok : goal.returns-in-Ok
returns-in-Ok g c = record {
  stops = λ before idle had.
      stops_next c.args.stop c.args.buffer before c.args.stores.now.items c.args.failed
      c.in-Ok.store c.push_reserved-in-Ok.new.self.items
      (sym c.is_some.ensures ∙ c.if-is_some.false) c.push_reserved-in-Ok.ensures.items
      (assumption c.in-Ok.ensures) had;
  leaves =
      leaves_next c.args.buffer c.args.stores.now.items c.push_reserved-in-Ok.new.self.items
      c.in-Ok.store c.push_reserved-in-Ok.ensures.items c.in-Ok.ensures.blocks;
  count = c.push_reserved-in-Ok.ensures.len;
  room = c.push_reserved-in-Ok.ensures.capacity;
}

pub returns-in-Err : goal.returns-in-Err
returns-in-Err g c = record {
  stops = λ before idle had.
      fails_next c.args.stop c.args.buffer before c.args.stores.now.items c.args.failed
      c.in-Err.unstopped.error c.in-Err.unstopped.buffer c.into_store-in-Err.result
      c.push_reserved-in-Err.new.self.items c.len-place.result
      (sym c.is_some.ensures ∙ c.if-is_some.false) idle c.in-Err.ensures.refusal
      c.in-Err.ensures.rest
      (omega (arith, c.len-place.ensures, c.args.stores.now.ok)) c.into_store-in-Err.ensures
      c.push_reserved-in-Err.ensures.items had;
  leaves =
      leaves_next c.args.buffer c.args.stores.now.items c.push_reserved-in-Err.new.self.items
      c.into_store-in-Err.result c.push_reserved-in-Err.ensures.items
      (rw c.into_store-in-Err.ensures c.in-Err.ensures.rest.store);
  count = c.push_reserved-in-Err.ensures.len;
  room = c.push_reserved-in-Err.ensures.capacity;
}
