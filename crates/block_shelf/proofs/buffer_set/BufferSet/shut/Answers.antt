use Rattle.std.proofs.Common.{ap, append_assoc, arith, length, refl}
use Rattle.std.proofs.lemmas.List.{length-append}
use Rattle.block_shelf.proofs.EachLemmas.{count_through, here_through, none_each, none_left}
use Rattle.block_shelf.proofs.Stops.{holds_kept, holds_left, not_idle}
use Rattle.block_shelf.specs.Stopping.{IsShutOver, IsStoreOf}
use Rattle.block_shelf.proofs.buffer_set.BufferSet.shut.Goals as goal

pub loop-buffer-preserved : goal.loop-buffer-preserved
loop-buffer-preserved g c = record {
  all = rw (append_assoc, ← c.in-Some.ensures.steps.0) c.loop-buffer.invariant.all;
  stopped = c.shut_next-failed.ensures.stops c.loop-buffer.yielded
      (c.is_busy.ensures.idle c.if-is_busy.false (length c.loop-buffer.yielded) c.in-Some.buffer
      (here_through c.loop-buffer.yielded c.loop-buffer.buffer-iterator.rest.items
      c.args.self.buffers.items c.in-Some.buffer c.next.new.self.rest.items
      c.loop-buffer.invariant.all c.in-Some.ensures.steps.0))
      c.loop-buffer.invariant.stopped;
  leaves = c.shut_next-failed.ensures.leaves c.loop-buffer.yielded c.loop-buffer.invariant.leaves;
  count = simp length-append (omega (arith, c.shut_next-failed.ensures.count));
  room = omega (arith, c.shut_next-failed.ensures.room);
}

pub returns : goal.returns
returns g c = record {
  held =
      holds_kept c.args.stop c.args.self c.loop-buffer.stores.items
      (rw (← none_left c.loop-buffer.yielded c.loop-buffer.buffer-iterator.rest.items
      c.loop-buffer.invariant.all (omega (arith, c.in-None.ensures.steps.0)))
      (rw c.in-None-failed.is at c.loop-buffer.invariant.stopped));
  shut =
      rw (← none_left c.loop-buffer.yielded c.loop-buffer.buffer-iterator.rest.items
      c.loop-buffer.invariant.all (omega (arith, c.in-None.ensures.steps.0)))
      (rw c.in-None-failed.is at c.loop-buffer.invariant.stopped);
  left =
      let through = none_left c.loop-buffer.yielded c.loop-buffer.buffer-iterator.rest.items
      c.loop-buffer.invariant.all (omega (arith, c.in-None.ensures.steps.0)) in
      holds_left c.args.stop c.args.self c.loop-buffer.stores.items
      (rw (← through) (rw c.in-None-failed.is at c.loop-buffer.invariant.stopped))
      (rw (← through) c.loop-buffer.invariant.leaves);
  refusal = tt;
  busy = λ busy.
      absurd (not_idle (c.is_busy.ensures.idle c.if-is_busy.false) busy);
}

pub shut_next-failed-requires : goal.shut_next-failed-requires
shut_next-failed-requires g c = omega (
  arith,
  c.loop-buffer.invariant.count,
  c.loop-buffer.invariant.room,
  count_through c.loop-buffer.yielded c.loop-buffer.buffer-iterator.rest.items
      c.args.self.buffers.items c.in-Some.buffer c.next.new.self.rest.items
      c.loop-buffer.invariant.all c.in-Some.ensures.steps.0,
)

pub returns-in_default : goal.returns-in_default
returns-in_default g c = record {
  held = tt;
  shut = tt;
  left = tt;
  refusal = refl;
  busy = λ busy.
      absurd (not_idle (c.is_busy.ensures.idle c.if-is_busy.false) busy);
}

pub returns-in-Some-failed : goal.returns-in-Some-failed
returns-in-Some-failed g c = record {
  held = tt;
  shut = tt;
  left = tt;
  refusal =
      let through = none_left c.loop-buffer.yielded c.loop-buffer.buffer-iterator.rest.items
      c.loop-buffer.invariant.all (omega (arith, c.in-None.ensures.steps.0)) in
      let was = rw c.in-Some-failed.is at c.loop-buffer.invariant.stopped in
      record {
        place = c.in-Some-failed.place;
        within = omega (arith, was.0, ap length through);
        told = c.number_of.ensures;
        left = rw through at was.1;
      };
  busy = λ busy.
      absurd (not_idle (c.is_busy.ensures.idle c.if-is_busy.false) busy);
}

pub loop-buffer-init : goal.loop-buffer-init
loop-buffer-init g c = record {
  all = c.into_iter-buffer-iterator.ensures.into_iter_gives.0;
  stopped = rw c.in-Ok.ensures.items (none_each (IsShutOver c.args.stop));
  leaves = rw c.in-Ok.ensures.items (none_each (IsStoreOf {g = g.S.BlockStore}));
  count = omega (arith, c.in-Ok.ensures.len);
  room = omega (arith, c.args.self.buffers.ok, c.len.ensures, c.in-Ok.ensures.capacity);
}

pub returns-then-is_busy : goal.returns-then-is_busy
returns-then-is_busy g c = record {
  held = tt;
  shut = tt;
  left = tt;
  refusal = (refl, c.is_busy.ensures.busy c.if-is_busy.true);
  busy = λ busy. tt;
}
