use Rattle.std.proofs.Common.{◌∙◌, ◌++◌, refl, sym, ap, arith, map, append_assoc, append-nil}
use Rattle.cyc_buffer.specs.Agreement.{store_of}
use Rattle.cyc_buffer.specs.Head.{inside}
use Rattle.block_shelf.proofs.EachLemmas.{count_through, none_left}
use Rattle.block_shelf.proofs.GivenBack.{count_given, one_more_given}
use Rattle.block_shelf.proofs.giving.give_back.Goals as goal

pub loop-unopened-init : goal.loop-unopened-init
loop-unopened-init g c = record {
  all = c.into_iter-unopened-iterator.ensures.into_iter_gives.0;
  items = sym (append-nil c.args.room.items);
  capacity = refl;
}

pub push_reserved-requires : goal.push_reserved-requires
push_reserved-requires g c = omega (
  arith,
  c.requires,
  c.args.buffers.ok,
  c.args.room.ok,
  c.loop-unopened.stores.ok,
  c.loop-unopened.invariant.capacity,
  count_given (λ one. store_of (inside one)) c.loop-unopened.yielded c.args.room.items
      c.loop-unopened.stores.items c.loop-unopened.invariant.items,
  count_through c.loop-unopened.yielded c.loop-unopened.unopened-iterator.rest.items
      c.args.buffers.items c.in-Some.unopened c.next.new.self.rest.items
      c.loop-unopened.invariant.all c.in-Some.ensures.steps.0,
)

pub loop-unopened-preserved : goal.loop-unopened-preserved
loop-unopened-preserved g c = record {
  all = rw (append_assoc, ← c.in-Some.ensures.steps.0) c.loop-unopened.invariant.all;
  items = one_more_given (λ one. store_of (inside one)) c.loop-unopened.yielded c.in-Some.unopened
      c.args.room.items c.loop-unopened.stores.items c.push_reserved.new.self.items
      c.loop-unopened.invariant.items
      (rw c.into_store.ensures at c.push_reserved.ensures.items);
  capacity = c.push_reserved.ensures.capacity ∙ c.loop-unopened.invariant.capacity;
}

pub returns : goal.returns
returns g c = record {
  items =
      c.loop-unopened.invariant.items
      ∙ ap (λ bs. c.args.room.items ++ map (λ one. store_of (inside one)) bs)
      (none_left c.loop-unopened.yielded c.loop-unopened.unopened-iterator.rest.items
      c.loop-unopened.invariant.all (omega (arith, c.in-None.ensures.steps.0)));
  capacity = c.loop-unopened.invariant.capacity;
}
