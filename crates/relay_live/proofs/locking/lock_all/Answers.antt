use Rattle.std.proofs.Common.{◌∙◌, ap, length, map, refl, subst, sym}
use Rattle.std.proofs.lemmas.List.{nil_from_length}
use Rattle.block_shelf.proofs.EachLemmas.{all_through, count_through, one_through}
use Rattle.relay_live.specs.Locked.{AreInOrder, number_of}
use Rattle.relay_live.proofs.Orders.{both_longer, more_in_order}
use Rattle.relay_live.proofs.Rooms.{place_fits, still_fits}
use Rattle.relay_live.proofs.locking.lock_all.Goals as goal

pub loop-value-init : goal.loop-value-init
loop-value-init g c = record {
  all = c.into_iter-value-iterator.ensures.into_iter_gives.0;
  count = ap length c.requires.none;
  order = subst (λ l. AreInOrder (map number_of l)) (sym c.requires.none) refl;
  room = c.requires.room;
}

-- there is room for a lock more
pub push_reserved-requires : goal.push_reserved-requires
push_reserved-requires g c =
    let inv = c.loop-value.invariant in
    place_fits _ _ _ _ _
    (c.loop-value.locks.ok.0 ∙ inv.count)
    (count_through c.loop-value.yielded c.loop-value.value-iterator.rest.items c.args.values.items
    c.in-Some.value c.next.new.self.rest.items inv.all c.in-Some.ensures.steps.0)
    inv.room

pub loop-value-preserved : goal.loop-value-preserved
loop-value-preserved g c =
    let inv = c.loop-value.invariant in
    let pushed = c.push_reserved.ensures in
    let locks = c.loop-value.locks.items in
    let more = c.push_reserved.new.self.items in
    record {
      all = one_through c.loop-value.yielded c.loop-value.value-iterator.rest.items
          c.args.values.items c.in-Some.value c.next.new.self.rest.items inv.all
          c.in-Some.ensures.steps.0;
      count = both_longer locks more c.over.result c.loop-value.yielded c.in-Some.value inv.count
          pushed.items;
      order = more_in_order number_of locks more c.over.result pushed.items
          (c.over.ensures ∙ c.len.ensures ∙ c.loop-value.locks.ok.0) inv.order;
      room = still_fits _ _ _ inv.room pushed.capacity;
    }

-- that was the last
pub returns : goal.returns
returns g c =
    let inv = c.loop-value.invariant in
    let rest = c.loop-value.value-iterator.rest in
    record {
      order = inv.order;
      count = inv.count ∙ ap length (all_through c.loop-value.yielded rest.items c.args.values.items
          inv.all (nil_from_length rest.items (sym rest.ok.0 ∙ c.in-None.ensures.steps.0)));
    }
