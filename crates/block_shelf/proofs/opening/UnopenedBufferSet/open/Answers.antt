use Rattle.std.proofs.Common.{ap, append_assoc, arith, length, refl}
use Rattle.std.proofs.lemmas.List.{length-append}
use Rattle.block_shelf.proofs.EachLemmas.{count_through, each_so, none_each, none_left}
use Rattle.block_shelf.proofs.Opens.{keeps_opened}
use Rattle.block_shelf.specs.Heads.{IsOpenedOf}
use Rattle.block_shelf.proofs.opening.UnopenedBufferSet.open.Goals as goal

pub loop-unopened-preserved : goal.loop-unopened-preserved
loop-unopened-preserved g c = record {
  all = rw (append_assoc, ← c.in-Some.ensures.steps.0) c.loop-unopened.invariant.all;
  opened = c.next-opening.ensures.opens c.loop-unopened.yielded c.loop-unopened.invariant.opened;
  count = simp length-append (omega (arith, c.next-opening.ensures.count));
  room = omega (arith, c.next-opening.ensures.room);
}

pub returns-in-Opened : goal.returns-in-Opened
returns-in-Opened g c = record {
  keeps =
      keeps_opened
      (rw (← none_left c.loop-unopened.yielded c.loop-unopened.unopened-iterator.rest.items
      c.loop-unopened.invariant.all (omega (arith, c.in-None.ensures.steps.0)))
      (rw c.in-Opened.is at c.loop-unopened.invariant.opened).0)
      refl;
  opened =
      rw (← none_left c.loop-unopened.yielded c.loop-unopened.unopened-iterator.rest.items
      c.loop-unopened.invariant.all (omega (arith, c.in-None.ensures.steps.0)))
      (each_so (rw c.in-Opened.is at c.loop-unopened.invariant.opened).0
      (λ b one code there at opened. opened.is_from));
  refusal = tt;
}

pub returns-in-Failed : goal.returns-in-Failed
returns-in-Failed g c = record {
  keeps = tt;
  opened = tt;
  refusal =
      let through = none_left c.loop-unopened.yielded c.loop-unopened.unopened-iterator.rest.items
      c.loop-unopened.invariant.all (omega (arith, c.in-None.ensures.steps.0)) in
      let was = rw c.in-Failed.is at c.loop-unopened.invariant.opened in
      record {
        device = refl;
        place = c.in-Failed.place;
        within = omega (arith, was.0, ap length through);
        told = grind arith;
        left = rw through at was.1;
      };
}

pub loop-unopened-init : goal.loop-unopened-init
loop-unopened-init g c = record {
  all = c.into_iter-unopened-iterator.ensures.into_iter_gives.0;
  opened = rw c.args.self.none_opened (none_each IsOpenedOf, c.args.self.none_back);
  count = omega (
    arith,
    c.args.self.opened.ok,
    c.args.self.stores.ok,
    ap length c.args.self.none_opened,
    ap length c.args.self.none_back,
  );
  room = omega (
    arith,
    c.args.self.buffers.ok,
    c.args.self.opened_room,
    c.args.self.stores_room,
  );
}

pub next-opening-requires : goal.next-opening-requires
next-opening-requires g c = omega (
  arith,
  c.loop-unopened.invariant.count,
  c.loop-unopened.invariant.room,
  count_through c.loop-unopened.yielded c.loop-unopened.unopened-iterator.rest.items
      c.args.self.buffers.items c.in-Some.unopened c.next.new.self.rest.items
      c.loop-unopened.invariant.all c.in-Some.ensures.steps.0,
)
