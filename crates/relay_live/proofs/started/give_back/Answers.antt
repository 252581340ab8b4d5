use Rattle.std.proofs.Common.{◌++◌, ◌∙◌, ap, append-nil, length, map, refl, sym}
use Rattle.std.proofs.lemmas.List.{length-append, length-map, nil_from_length}
use Rattle.cyc_buffer.specs.Agreement.{store_of}
use Rattle.cyc_buffer.specs.Head.{inside}
use Rattle.live_store.specs.Started.{unopened_in}
use Rattle.block_shelf.proofs.EachLemmas.{all_through, count_through, made_more, one_through}
use Rattle.relay_live.proofs.Rooms.{behind_fits}
use Rattle.relay_live.proofs.started.give_back.Goals as goal

pub loop-unopened-init : goal.loop-unopened-init
loop-unopened-init g c = record {
  all = ap (λ it. it.rest.items) c.into_iter-unopened-iterator.ensures.into_iter_gives;
  items = sym (append-nil c.args.room.items);
  capacity = refl;
}

pub push_reserved-requires : goal.push_reserved-requires
push_reserved-requires g c =
    behind_fits _ _ _ _ _ _ _ _ _ _
    (c.loop-unopened.stores.ok.0 ∙ ap length c.loop-unopened.invariant.items
    ∙ length-append c.args.room.items
    (map (λ one. store_of (inside (unopened_in one))) c.loop-unopened.yielded))
    c.args.room.ok.0
    (length-map c.loop-unopened.yielded (λ one. store_of (inside (unopened_in one))))
    (count_through c.loop-unopened.yielded c.loop-unopened.unopened-iterator.rest.items
    c.args.buffers.rest.items c.in-Some.unopened c.next.new.self.rest.items
    c.loop-unopened.invariant.all c.in-Some.ensures.steps.0)
    refl c.requires c.loop-unopened.invariant.capacity

pub loop-unopened-preserved : goal.loop-unopened-preserved
loop-unopened-preserved g c = record {
  all = one_through c.loop-unopened.yielded c.loop-unopened.unopened-iterator.rest.items
      c.args.buffers.rest.items c.in-Some.unopened c.next.new.self.rest.items
      c.loop-unopened.invariant.all
      c.in-Some.ensures.steps.0;
  items = made_more (λ one. store_of (inside (unopened_in one))) c.args.room.items
      c.loop-unopened.yielded c.in-Some.unopened
      c.loop-unopened.stores.items c.push_reserved.new.self.items c.into_store.result
      c.loop-unopened.invariant.items c.push_reserved.ensures.items c.into_store.ensures;
  capacity = c.push_reserved.ensures.capacity ∙ c.loop-unopened.invariant.capacity;
}

pub returns : goal.returns
returns g c =
    record {
      items = c.loop-unopened.invariant.items
          ∙ ap (λ through. c.args.room.items ++ map (λ one. store_of (inside (unopened_in one)))
          through)
          (all_through c.loop-unopened.yielded c.loop-unopened.unopened-iterator.rest.items
          c.args.buffers.rest.items
          c.loop-unopened.invariant.all
          (nil_from_length c.loop-unopened.unopened-iterator.rest.items
          (sym c.loop-unopened.unopened-iterator.rest.ok.0 ∙ c.in-None.ensures.steps.0)));
      capacity = c.loop-unopened.invariant.capacity;
    }
