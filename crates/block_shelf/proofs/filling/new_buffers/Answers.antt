use Rattle.std.proofs.Common.{◌≡◌, append_assoc, arith, length, refl}
use Rattle.std.proofs.lemmas.Option.{none-some}
use Rattle.block_shelf.proofs.EachLemmas.{count_through, here_through, none_left}
use Rattle.block_shelf.proofs.NewBufferSet.{one_more_over}
use Rattle.block_shelf.proofs.RefusedOver.{refused_over}
use Rattle.block_shelf.proofs.filling.new_buffers.Goals as goal

pub loop-store-preserved : goal.loop-store-preserved
loop-store-preserved g c =
    let number : c.len-number.result ≡ length c.loop-store.yielded = omega (
      arith,
      c.len-number.ensures,
      c.loop-store.buffers.ok,
      c.loop-store.invariant.over.count,
    ) in
    record {
      all = rw (append_assoc, ← c.in-Some.ensures.steps.0) c.loop-store.invariant.all;
      over = rw c.push_reserved.ensures.items
          (one_more_over c.loop-store.yielded c.loop-store.buffers.items c.in-Some.store
          c.in_ok-buffer.buffer c.loop-store.invariant.over
          (rw number at c.in_ok-buffer.ensures.is_new));
      room = omega (arith, c.push_reserved.ensures.capacity, c.loop-store.invariant.room);
    }

pub push_reserved-requires : goal.push_reserved-requires
push_reserved-requires g c = omega (
  arith,
  c.loop-store.buffers.ok,
  c.loop-store.invariant.over.count,
  c.loop-store.invariant.room,
  count_through c.loop-store.yielded c.loop-store.store-iterator.rest.items c.args.stores.items
      c.in-Some.store c.next.new.self.rest.items c.loop-store.invariant.all
      c.in-Some.ensures.steps.0,
)

pub overflow_cast-number : goal.overflow_cast-number
overflow_cast-number g c = omega (
  arith,
  c.requires,
  c.len-number.ensures,
  c.loop-store.buffers.ok,
  c.loop-store.invariant.over.count,
  count_through c.loop-store.yielded c.loop-store.store-iterator.rest.items c.args.stores.items
      c.in-Some.store c.next.new.self.rest.items c.loop-store.invariant.all
      c.in-Some.ensures.steps.0,
)

pub returns : goal.returns
returns g c = record {
  over =
      rw (← none_left c.loop-store.yielded c.loop-store.store-iterator.rest.items
      c.loop-store.invariant.all (omega (arith, c.in-None.ensures.steps.0)))
      c.loop-store.invariant.over;
  refusal = tt;
}

pub loop-store-init : goal.loop-store-init
loop-store-init g c = record {
  all = c.into_iter-store-iterator.ensures.into_iter_gives.0;
  over = rw c.in_ok-buffers.ensures.items
      (record { count = refl; each = λ b store is. absurd (none-some store is) });
  room = omega (arith, c.args.stores.ok, c.len.ensures, c.in_ok-buffers.ensures.capacity);
}

pub returns-in_err-buffer-clause-refusal : goal.returns-in_err-buffer-clause-refusal
returns-in_err-buffer-clause-refusal g c =
    let number : c.len-number.result ≡ length c.loop-store.yielded = omega (
      arith,
      c.len-number.ensures,
      c.loop-store.buffers.ok,
      c.loop-store.invariant.over.count,
    ) in
    refused_over g.S.BlockStore c.args.stores.items (length c.loop-store.yielded) c.in-Some.store
    c.in_err-buffer.field-0.0 c.from_residual-in_err-buffer.result
    (here_through c.loop-store.yielded c.loop-store.store-iterator.rest.items c.args.stores.items
    c.in-Some.store c.next.new.self.rest.items c.loop-store.invariant.all
    c.in-Some.ensures.steps.0)
    (rw number at c.in_err-buffer.ensures.refusal) c.from_residual-in_err-buffer.ensures
