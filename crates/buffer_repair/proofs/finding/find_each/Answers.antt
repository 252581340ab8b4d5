use Rattle.std.proofs.Common.{append_assoc, ap, arith, length}
use Rattle.std.proofs.lemmas.List.{length-append}
use Rattle.std.proofs.lemmas.List.Elements.{All-nil}
use Rattle.block_shelf.proofs.EachLemmas.{count_through, none_each, none_left}
use Rattle.buffer_repair.specs.Finding.{IsFoundOver}
use Rattle.buffer_repair.proofs.finding.find_each.Goals as goal

pub loop-store-init : goal.loop-store-init
loop-store-init g c = record {
  all = c.into_iter-store-iterator.ensures.into_iter_gives.0;
  found = rw c.requires.none_found (none_each IsFoundOver, c.requires.none_back);
  idle = rw c.requires.none_found (All-nil _);
  count = omega (
    arith,
    c.args.found.ok,
    c.args.room.ok,
    ap length c.requires.none_found,
    ap length c.requires.none_back,
  );
  room = omega (
    arith,
    c.args.stores.ok,
    c.requires.found_room,
    c.requires.stores_room,
  );
}

pub next-finding-requires-clause-few : goal.next-finding-requires-clause-few
next-finding-requires-clause-few g c = omega (
  arith,
  c.requires.few,
  c.args.stores.ok,
  c.loop-store.invariant.count,
  count_through c.loop-store.yielded c.loop-store.store-iterator.rest.items c.args.stores.items
      c.in-Some.store c.next.new.self.rest.items c.loop-store.invariant.all
      c.in-Some.ensures.steps.0,
)

pub next-finding-requires-clause-room : goal.next-finding-requires-clause-room
next-finding-requires-clause-room g c = omega (
  arith,
  c.loop-store.invariant.count,
  c.loop-store.invariant.room,
  count_through c.loop-store.yielded c.loop-store.store-iterator.rest.items c.args.stores.items
      c.in-Some.store c.next.new.self.rest.items c.loop-store.invariant.all
      c.in-Some.ensures.steps.0,
)

pub loop-store-preserved : goal.loop-store-preserved
loop-store-preserved g c = record {
  all = rw (append_assoc, ← c.in-Some.ensures.steps.0) c.loop-store.invariant.all;
  found = c.next-finding.ensures.tries c.loop-store.yielded c.loop-store.invariant.found;
  idle = c.next-finding.ensures.idle;
  count = simp length-append (omega (arith, c.next-finding.ensures.count));
  room = omega (arith, c.next-finding.ensures.room);
}

pub returns : goal.returns
returns g c = record {
  found =
      rw (← none_left c.loop-store.yielded c.loop-store.store-iterator.rest.items
      c.loop-store.invariant.all (omega (arith, c.in-None.ensures.steps.0)))
      c.loop-store.invariant.found;
  idle = c.loop-store.invariant.idle;
  count = omega (
    arith,
    c.args.stores.ok,
    c.loop-store.invariant.count,
    ap length (none_left c.loop-store.yielded c.loop-store.store-iterator.rest.items
        c.loop-store.invariant.all (omega (arith, c.in-None.ensures.steps.0))),
  );
  room = omega (arith, c.args.stores.ok, c.loop-store.invariant.room);
}
