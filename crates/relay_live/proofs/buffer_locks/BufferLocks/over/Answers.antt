use Rattle.std.proofs.Common.{◌∙◌, ap, length, refl, subst, sym}
use Rattle.std.proofs.lemmas.List.{nil_from_length}
use Rattle.block_shelf.proofs.EachLemmas.{all_through, count_through, one_through}
use Rattle.relay_live.specs.BufferLocks.{numbers_in}
use Rattle.relay_live.specs.Locked.{AreInOrder}
use Rattle.relay_live.proofs.Orders.{both_longer, next_in_order}
use Rattle.relay_live.proofs.Rooms.{place_fits, still_fits}
use Rattle.relay_live.proofs.buffer_locks.BufferLocks.over.Goals as goal

pub loop-buffer-init : goal.loop-buffer-init
loop-buffer-init g c = record {
  all = c.into_iter-buffer-iterator.ensures.into_iter_gives.0;
  count = ap length c.requires.none;
  order = subst (λ l. AreInOrder l) (sym c.requires.none) refl;
  locks = c.requires.locks;
  numbers = c.requires.numbers;
}

-- there is room for a lock more
pub push-requires-clause-lock_room : goal.push-requires-clause-lock_room
push-requires-clause-lock_room g c =
    let inv = c.loop-buffer.invariant in
    place_fits _ _ _ _ _ inv.count
    (count_through c.loop-buffer.yielded c.loop-buffer.buffer-iterator.rest.items
    c.args.buffers.items c.in-Some.buffer c.next.new.self.rest.items inv.all
    c.in-Some.ensures.steps.0)
    inv.locks

-- and for its number
pub push-requires-clause-number_room : goal.push-requires-clause-number_room
push-requires-clause-number_room g c =
    let inv = c.loop-buffer.invariant in
    place_fits _ _ _ _ _ inv.count
    (count_through c.loop-buffer.yielded c.loop-buffer.buffer-iterator.rest.items
    c.args.buffers.items c.in-Some.buffer c.next.new.self.rest.items inv.all
    c.in-Some.ensures.steps.0)
    inv.numbers

pub loop-buffer-preserved : goal.loop-buffer-preserved
loop-buffer-preserved g c =
    let inv = c.loop-buffer.invariant in
    let pushed = c.push.ensures in
    let numbers = numbers_in c.loop-buffer.row in
    record {
      all = one_through c.loop-buffer.yielded c.loop-buffer.buffer-iterator.rest.items
          c.args.buffers.items c.in-Some.buffer c.next.new.self.rest.items inv.all
          c.in-Some.ensures.steps.0;
      count = both_longer numbers (numbers_in c.push.new.self) (length numbers)
          c.loop-buffer.yielded c.in-Some.buffer inv.count pushed.numbers;
      order = subst (λ l. AreInOrder l) (sym pushed.numbers) (next_in_order numbers inv.order);
      locks = still_fits _ _ _ inv.locks pushed.rooms.0;
      numbers = still_fits _ _ _ inv.numbers pushed.rooms.1;
    }

-- that was the last
pub returns : goal.returns
returns g c =
    let inv = c.loop-buffer.invariant in
    let rest = c.loop-buffer.buffer-iterator.rest in
    record {
      order = inv.order;
      count = inv.count ∙ ap length (all_through c.loop-buffer.yielded rest.items
          c.args.buffers.items inv.all
          (nil_from_length rest.items (sym rest.ok.0 ∙ c.in-None.ensures.steps.0)));
    }
