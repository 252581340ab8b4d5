use Rattle.std.proofs.Common.{◌∙◌, ◌++◌, refl, sym, ap, arith, map, append_assoc, append-nil}
use Rattle.cyc_buffer.specs.Agreement.{store_of}
use Rattle.block_shelf.proofs.EachLemmas.{count_through, none_left}
use Rattle.block_shelf.proofs.GivenBack.{count_given, one_more_given}
use Rattle.block_shelf.proofs.giving.give_up.Goals as goal

pub loop-buffer-init : goal.loop-buffer-init
loop-buffer-init g c = record {
  all = c.into_iter-buffer-iterator.ensures.into_iter_gives.0;
  items = sym (append-nil c.args.room.items);
  capacity = refl;
}

pub push_reserved-requires : goal.push_reserved-requires
push_reserved-requires g c = omega (
  arith,
  c.requires,
  c.args.buffers.ok,
  c.args.room.ok,
  c.loop-buffer.stores.ok,
  c.loop-buffer.invariant.capacity,
  count_given (λ one. store_of one) c.loop-buffer.yielded c.args.room.items
      c.loop-buffer.stores.items c.loop-buffer.invariant.items,
  count_through c.loop-buffer.yielded c.loop-buffer.buffer-iterator.rest.items
      c.args.buffers.items c.in-Some.buffer c.next.new.self.rest.items
      c.loop-buffer.invariant.all c.in-Some.ensures.steps.0,
)

pub loop-buffer-preserved : goal.loop-buffer-preserved
loop-buffer-preserved g c = record {
  all = rw (append_assoc, ← c.in-Some.ensures.steps.0) c.loop-buffer.invariant.all;
  items = one_more_given (λ one. store_of one) c.loop-buffer.yielded c.in-Some.buffer
      c.args.room.items c.loop-buffer.stores.items c.push_reserved.new.self.items
      c.loop-buffer.invariant.items
      (rw c.into_store.ensures at c.push_reserved.ensures.items);
  capacity = c.push_reserved.ensures.capacity ∙ c.loop-buffer.invariant.capacity;
}

pub returns : goal.returns
returns g c = record {
  items =
      c.loop-buffer.invariant.items
      ∙ ap (λ bs. c.args.room.items ++ map (λ one. store_of one) bs)
      (none_left c.loop-buffer.yielded c.loop-buffer.buffer-iterator.rest.items
      c.loop-buffer.invariant.all (omega (arith, c.in-None.ensures.steps.0)));
  capacity = c.loop-buffer.invariant.capacity;
}
