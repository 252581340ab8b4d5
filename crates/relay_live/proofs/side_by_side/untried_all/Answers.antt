use Rattle.std.proofs.Common.{◌++◌, ◌∙◌, ap, append-nil, length, map, refl, sym}
use Rattle.std.proofs.lemmas.List.{length-append, length-map, nil_from_length}
use Rattle.block_shelf.proofs.EachLemmas.{all_through, count_through, made_more, one_through}
use Rattle.relay_live.proofs.Rooms.{behind_fits}
use Rattle.relay_live.specs.Trials.{untried}
use Rattle.relay_live.proofs.side_by_side.untried_all.Goals as goal

pub loop-store-init : goal.loop-store-init
loop-store-init g c = record {
  all = c.into_iter-store-iterator.ensures.into_iter_gives.0;
  items = sym (append-nil c.args.room.items);
  capacity = refl;
}

pub push_reserved-requires : goal.push_reserved-requires
push_reserved-requires g c =
    behind_fits _ _ _ _ _ _ _ _ _ _
    (c.loop-store.slots.ok.0 ∙ ap length c.loop-store.invariant.items
    ∙ length-append c.args.room.items (map untried c.loop-store.yielded))
    c.args.room.ok.0
    (length-map c.loop-store.yielded untried)
    (count_through c.loop-store.yielded c.loop-store.store-iterator.rest.items
    c.args.stores.items c.in-Some.store c.next.new.self.rest.items
    c.loop-store.invariant.all c.in-Some.ensures.steps.0)
    c.args.stores.ok.0 c.requires c.loop-store.invariant.capacity

pub loop-store-preserved : goal.loop-store-preserved
loop-store-preserved g c = record {
  all = one_through c.loop-store.yielded c.loop-store.store-iterator.rest.items
      c.args.stores.items c.in-Some.store c.next.new.self.rest.items c.loop-store.invariant.all
      c.in-Some.ensures.steps.0;
  items = made_more untried c.args.room.items c.loop-store.yielded c.in-Some.store
      c.loop-store.slots.items c.push_reserved.new.self.items (untried c.in-Some.store)
      c.loop-store.invariant.items c.push_reserved.ensures.items refl;
  capacity = c.push_reserved.ensures.capacity ∙ c.loop-store.invariant.capacity;
}

pub returns : goal.returns
returns g c =
    c.loop-store.invariant.items
    ∙ ap (λ through. c.args.room.items ++ map untried through)
    (all_through c.loop-store.yielded c.loop-store.store-iterator.rest.items
    c.args.stores.items c.loop-store.invariant.all
    (nil_from_length c.loop-store.store-iterator.rest.items
    (sym c.loop-store.store-iterator.rest.ok.0 ∙ c.in-None.ensures.steps.0)))
