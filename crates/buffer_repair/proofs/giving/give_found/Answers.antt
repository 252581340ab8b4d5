use Rattle.std.proofs.Common.{◌∙◌, ◌++◌, refl, sym, ap, arith, map, append_assoc, append-nil}
use Rattle.block_shelf.proofs.EachLemmas.{count_through, none_left}
use Rattle.block_shelf.proofs.GivenBack.{count_given, one_more_given}
use Rattle.buffer_repair.specs.Parts.{store_in}
use Rattle.buffer_repair.proofs.giving.give_found.Goals as goal

pub loop-one-init : goal.loop-one-init
loop-one-init g c = record {
  all = c.into_iter-one-iterator.ensures.into_iter_gives.0;
  items = sym (append-nil c.args.room.items);
  capacity = refl;
}

pub push_reserved-requires : goal.push_reserved-requires
push_reserved-requires g c = omega (
  arith,
  c.requires,
  c.args.found.ok,
  c.args.room.ok,
  c.loop-one.stores.ok,
  c.loop-one.invariant.capacity,
  count_given (λ one. store_in one) c.loop-one.yielded c.args.room.items
      c.loop-one.stores.items c.loop-one.invariant.items,
  count_through c.loop-one.yielded c.loop-one.one-iterator.rest.items
      c.args.found.items c.in-Some.one c.next.new.self.rest.items
      c.loop-one.invariant.all c.in-Some.ensures.steps.0,
)

pub loop-one-preserved : goal.loop-one-preserved
loop-one-preserved g c = record {
  all = rw (append_assoc, ← c.in-Some.ensures.steps.0) c.loop-one.invariant.all;
  items = one_more_given (λ one. store_in one) c.loop-one.yielded c.in-Some.one
      c.args.room.items c.loop-one.stores.items c.push_reserved.new.self.items
      c.loop-one.invariant.items
      (rw c.into_store.ensures at c.push_reserved.ensures.items);
  capacity = c.push_reserved.ensures.capacity ∙ c.loop-one.invariant.capacity;
}

pub returns : goal.returns
returns g c = record {
  items =
      c.loop-one.invariant.items
      ∙ ap (λ bs. c.args.room.items ++ map (λ one. store_in one) bs)
      (none_left c.loop-one.yielded c.loop-one.one-iterator.rest.items
      c.loop-one.invariant.all (omega (arith, c.in-None.ensures.steps.0)));
  capacity = c.loop-one.invariant.capacity;
}
