use Rattle.std.proofs.Common.{◌++◌, ◌∙◌, ap, append-nil, length, map, refl, sym}
use Rattle.std.proofs.lemmas.List.{length-append, length-map, nil_from_length}
use Rattle.cyc_buffer.specs.Agreement.{store_of}
use Rattle.live_store.specs.Steps.{buffer_of}
use Rattle.block_shelf.proofs.EachLemmas.{all_through, count_through, made_more, one_through}
use Rattle.relay_live.proofs.Rooms.{behind_fits}
use Rattle.relay_live.proofs.started.give_up.Goals as goal

pub loop-buffer-init : goal.loop-buffer-init
loop-buffer-init g c = record {
  all = c.into_iter-buffer-iterator.ensures.into_iter_gives.0;
  items = sym (append-nil c.args.room.items);
  capacity = refl;
}

pub push_reserved-requires : goal.push_reserved-requires
push_reserved-requires g c =
    behind_fits _ _ _ _ _ _ _ _ _ _
    (c.loop-buffer.stores.ok.0 ∙ ap length c.loop-buffer.invariant.items
    ∙ length-append c.args.room.items
    (map (λ one. store_of (buffer_of one)) c.loop-buffer.yielded))
    c.args.room.ok.0
    (length-map c.loop-buffer.yielded (λ one. store_of (buffer_of one)))
    (count_through c.loop-buffer.yielded c.loop-buffer.buffer-iterator.rest.items
    c.args.buffers.items c.in-Some.buffer c.next.new.self.rest.items
    c.loop-buffer.invariant.all c.in-Some.ensures.steps.0)
    c.args.buffers.ok.0 c.requires c.loop-buffer.invariant.capacity

pub loop-buffer-preserved : goal.loop-buffer-preserved
loop-buffer-preserved g c = record {
  all = one_through c.loop-buffer.yielded c.loop-buffer.buffer-iterator.rest.items
      c.args.buffers.items c.in-Some.buffer c.next.new.self.rest.items c.loop-buffer.invariant.all
      c.in-Some.ensures.steps.0;
  items = made_more (λ one. store_of (buffer_of one)) c.args.room.items c.loop-buffer.yielded
      c.in-Some.buffer
      c.loop-buffer.stores.items c.push_reserved.new.self.items c.into_store.result
      c.loop-buffer.invariant.items c.push_reserved.ensures.items c.into_store.ensures;
  capacity = c.push_reserved.ensures.capacity ∙ c.loop-buffer.invariant.capacity;
}

pub returns : goal.returns
returns g c =
    record {
      items = c.loop-buffer.invariant.items
          ∙ ap (λ through. c.args.room.items ++ map (λ one. store_of (buffer_of one)) through)
          (all_through c.loop-buffer.yielded c.loop-buffer.buffer-iterator.rest.items
          c.args.buffers.items
          c.loop-buffer.invariant.all
          (nil_from_length c.loop-buffer.buffer-iterator.rest.items
          (sym c.loop-buffer.buffer-iterator.rest.ok.0 ∙ c.in-None.ensures.steps.0)));
      capacity = c.loop-buffer.invariant.capacity;
    }
