use Rattle.std.proofs.Common.{◌≡◌, append_assoc, arith, length}
use Rattle.relay_adding.specs.Making.{IsAddedBehind}
use Rattle.relay_adding.proofs.AddedOver.{unadded}
use Rattle.block_shelf.proofs.EachLemmas.{count_through, here_through, none_each, none_left}
use Rattle.block_shelf.proofs.EachLemmas.{one_more_each}
use Rattle.relay_adding.proofs.making.add_buffers.Goals as goal

pub loop-store-init : goal.loop-store-init
loop-store-init g c = record {
  all = c.into_iter-store-iterator.ensures.into_iter_gives.0;
  added = rw c.in_ok-left.ensures.items
      (none_each (IsAddedBehind g.S.BlockStore c.args.first c.args.stop));
  room = omega (arith, c.args.stores.ok, c.len.ensures, c.in_ok-left.ensures.capacity);
}

pub overflow_cast-number : goal.overflow_cast-number
overflow_cast-number g c = omega (
  arith,
  c.requires,
  c.len-in-loop-store.ensures,
  c.loop-store.left.ok,
  c.loop-store.invariant.added.count,
  count_through c.loop-store.yielded c.loop-store.store-iterator.rest.items c.args.stores.items
      c.in-Some.store c.next.new.self.rest.items c.loop-store.invariant.all
      c.in-Some.ensures.steps.0,
)

pub push_reserved-requires : goal.push_reserved-requires
push_reserved-requires g c = omega (
  arith,
  c.loop-store.left.ok,
  c.loop-store.invariant.added.count,
  c.loop-store.invariant.room,
  count_through c.loop-store.yielded c.loop-store.store-iterator.rest.items c.args.stores.items
      c.in-Some.store c.next.new.self.rest.items c.loop-store.invariant.all
      c.in-Some.ensures.steps.0,
)

pub loop-store-preserved : goal.loop-store-preserved
loop-store-preserved g c =
    let number : c.len-in-loop-store.result ≡ length c.loop-store.yielded = omega (
      arith,
      c.len-in-loop-store.ensures,
      c.loop-store.left.ok,
      c.loop-store.invariant.added.count,
    ) in
    record {
      all = rw (append_assoc, ← c.in-Some.ensures.steps.0) c.loop-store.invariant.all;
      added = rw c.push_reserved.ensures.items
          (one_more_each (IsAddedBehind g.S.BlockStore c.args.first c.args.stop)
          c.loop-store.yielded c.loop-store.left.items c.in-Some.store c.in_ok-one.one
          c.loop-store.invariant.added
          (rw number at c.in_ok-one.ensures.added));
      room = omega (arith, c.push_reserved.ensures.capacity, c.loop-store.invariant.room);
    }

pub returns : goal.returns
returns g c = record {
  added =
      rw (← none_left c.loop-store.yielded c.loop-store.store-iterator.rest.items
      c.loop-store.invariant.all (omega (arith, c.in-None.ensures.steps.0)))
      c.loop-store.invariant.added;
  refusal = tt;
}

pub returns-in_err-one-clause-refusal : goal.returns-in_err-one-clause-refusal
returns-in_err-one-clause-refusal g c =
    let number : c.len-in-loop-store.result ≡ length c.loop-store.yielded = omega (
      arith,
      c.len-in-loop-store.ensures,
      c.loop-store.left.ok,
      c.loop-store.invariant.added.count,
    ) in
    unadded g.S.BlockStore c.args.first c.args.stores.items (length c.loop-store.yielded)
    c.in-Some.store c.in_err-one.field-0.0 c.from_residual-in_err-one.result
    (here_through c.loop-store.yielded c.loop-store.store-iterator.rest.items c.args.stores.items
    c.in-Some.store c.next.new.self.rest.items c.loop-store.invariant.all
    c.in-Some.ensures.steps.0)
    (rw number at c.in_err-one.ensures.refusal) c.from_residual-in_err-one.ensures
