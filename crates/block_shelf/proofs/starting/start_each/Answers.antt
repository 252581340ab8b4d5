use Rattle.std.proofs.Common.{append_assoc, ap, arith, length}
use Rattle.std.proofs.lemmas.List.{length-append}
use Rattle.std.proofs.lemmas.Option.{none-some}
use Rattle.block_shelf.proofs.EachLemmas.{count_through, none_each, none_left}
use Rattle.block_shelf.specs.Starting.{IsStartedOver}
use Rattle.block_shelf.proofs.starting.start_each.Goals as goal

pub loop-store-init : goal.loop-store-init
loop-store-init g c = record {
  all = c.into_iter-store-iterator.ensures.into_iter_gives.0;
  tried = rw c.requires.none_started (
    none_each IsStartedOver,
    c.requires.none_back,
    λ b one is. absurd (none-some one is),
  );
  count = omega (
    arith,
    c.args.buffers.ok,
    c.args.room.ok,
    ap length c.requires.none_started,
    ap length c.requires.none_back,
  );
  room = omega (
    arith,
    c.args.stores.ok,
    c.requires.buffers_room,
    c.requires.stores_room,
  );
}

pub next-starting-requires-clause-few : goal.next-starting-requires-clause-few
next-starting-requires-clause-few g c = omega (
  arith,
  c.requires.few,
  c.args.stores.ok,
  c.loop-store.invariant.count,
  count_through c.loop-store.yielded c.loop-store.store-iterator.rest.items c.args.stores.items
      c.in-Some.store c.next.new.self.rest.items c.loop-store.invariant.all
      c.in-Some.ensures.steps.0,
)

pub next-starting-requires-clause-room : goal.next-starting-requires-clause-room
next-starting-requires-clause-room g c = omega (
  arith,
  c.loop-store.invariant.count,
  c.loop-store.invariant.room,
  count_through c.loop-store.yielded c.loop-store.store-iterator.rest.items c.args.stores.items
      c.in-Some.store c.next.new.self.rest.items c.loop-store.invariant.all
      c.in-Some.ensures.steps.0,
)

pub loop-store-preserved : goal.loop-store-preserved
loop-store-preserved g c = record {
  all = rw (append_assoc, ← c.in-Some.ensures.steps.0) c.loop-store.invariant.all;
  tried = c.next-starting.ensures.tries c.loop-store.yielded c.loop-store.invariant.tried;
  count = simp length-append (omega (arith, c.next-starting.ensures.count));
  room = omega (arith, c.next-starting.ensures.room);
}

pub returns : goal.returns
returns g c = record {
  tried =
      rw (← none_left c.loop-store.yielded c.loop-store.store-iterator.rest.items
      c.loop-store.invariant.all (omega (arith, c.in-None.ensures.steps.0)))
      c.loop-store.invariant.tried;
  count = omega (
    arith,
    c.args.stores.ok,
    c.loop-store.invariant.count,
    ap length (none_left c.loop-store.yielded c.loop-store.store-iterator.rest.items
        c.loop-store.invariant.all (omega (arith, c.in-None.ensures.steps.0))),
  );
  room = omega (arith, c.args.stores.ok, c.loop-store.invariant.room);
}
