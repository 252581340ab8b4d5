use Rattle.std.proofs.Common.{◌∙◌, ◌++◌, ◌∷◌, [], Some, ap, length, map, refl, subst, sym}
use Rattle.std.proofs.lemmas.List.{length-append, length-map}
use Rattle.cyc_buffer.specs.Agreement.{store_of}
use Rattle.cyc_buffer.specs.Head.{inside}
use Rattle.block_shelf.proofs.EachLemmas.{count_through, none_each}
use Rattle.block_shelf.specs.Each.{AreEach}
use Rattle.live_store.specs.Started.{unopened_in}
use Rattle.live_store.specs.Steps.{buffer_of}
use Rattle.relay_live.proofs.OpenedBuffers.{OpenSoFar, failed_here, opened_all, opened_more}
use Rattle.relay_live.proofs.Rooms.{below_as, below_most, front_fits, more_fits, place_fits}
use Rattle.relay_live.proofs.Rooms.{rest_fits, room_of, still_fits}
use Rattle.relay_live.specs.Starting.{IsOpenedFrom, stores_of}
use Rattle.relay_live.proofs.started.StartedBuffers.open.Goals as goal

pub loop-unopened-init : goal.loop-unopened-init
loop-unopened-init g c = record {
  so_far = record {
    gone = [];
    all_is = c.into_iter-left.ensures.rest;
    are = subst (λ opened. AreEach IsOpenedFrom [] opened) (sym c.args.self.none_opened)
        (none_each IsOpenedFrom);
  };
  room = room_of _ _ _ c.args.self.opened_room c.args.self.buffers.ok.0;
}

pub push_reserved-requires : goal.push_reserved-requires
push_reserved-requires g c =
    let so_far = c.loop-unopened.invariant.so_far in
    place_fits _ _ _ _ _ (c.loop-unopened.opened.ok.0 ∙ so_far.are.count)
    (count_through so_far.gone c.loop-unopened.left.rest.items c.args.self.buffers.items
    c.in-Some.unopened c.next.new.self.rest.items so_far.all_is c.in-Some.ensures.cases.0)
    c.loop-unopened.invariant.room

pub loop-unopened-preserved : goal.loop-unopened-preserved
loop-unopened-preserved g c =
    let is = c.in-Ok.ensures in
    record {
      so_far = subst
          (OpenSoFar c.args.self.buffers.items c.next.new.self.rest.items)
          (sym c.push_reserved.ensures.items)
          (opened_more c.args.self.buffers.items c.loop-unopened.left.rest.items
          c.loop-unopened.opened.items c.loop-unopened.invariant.so_far c.in-Some.unopened
          c.next.new.self.rest.items c.in-Some.ensures.cases.0 c.in-Ok.buffer
          (λ b. record {
            buffer = record {
              opened = is.opened;
              written = is.written;
              same = is.same;
              calls = is.calls;
              no_failure = is.no_failure;
              count = is.count;
            };
            free = is.free;
            numbers = is.numbers;
          }));
      room = still_fits _ _ _ c.loop-unopened.invariant.room c.push_reserved.ensures.capacity;
    }

pub returns : goal.returns
returns g c =
    record {
      opened = opened_all c.args.self.buffers.items c.loop-unopened.left.rest.items
          c.loop-unopened.opened.items c.loop-unopened.invariant.so_far
          (sym c.loop-unopened.left.rest.ok.0 ∙ c.in_default.ensures.cases.0);
      refusal = tt;
    }

-- there is room for all stores
pub give_up-stores-requires : goal.give_up-stores-requires
give_up-stores-requires g c =
    let so_far = c.loop-unopened.invariant.so_far in
    front_fits _ _ _ _ _ c.args.self.stores_room c.args.self.buffers.ok.0
    (count_through so_far.gone c.loop-unopened.left.rest.items c.args.self.buffers.items
    c.in-Some.unopened c.next.new.self.rest.items so_far.all_is c.in-Some.ensures.cases.0)
    _ _ (c.loop-unopened.opened.ok.0 ∙ so_far.are.count)
    (c.args.self.stores.ok.0 ∙ ap length c.args.self.none_back)

pub push_reserved-requires-in-Err : goal.push_reserved-requires-in-Err
push_reserved-requires-in-Err g c =
    let so_far = c.loop-unopened.invariant.so_far in
    more_fits _ _ _ _ _ c.args.self.stores_room c.args.self.buffers.ok.0
    (count_through so_far.gone c.loop-unopened.left.rest.items c.args.self.buffers.items
    c.in-Some.unopened c.next.new.self.rest.items so_far.all_is c.in-Some.ensures.cases.0)
    _ _ _ _
    (c.give_up-stores.result.ok.0 ∙ ap length c.give_up-stores.ensures.items
    ∙ length-append c.args.self.stores.items
    (map (λ buffer. store_of (buffer_of buffer)) c.loop-unopened.opened.items))
    (ap length c.args.self.none_back)
    (length-map c.loop-unopened.opened.items (λ buffer. store_of (buffer_of buffer))
    ∙ so_far.are.count)
    c.give_up-stores.ensures.capacity

pub give_back-requires : goal.give_back-requires
give_back-requires g c =
    let so_far = c.loop-unopened.invariant.so_far in
    rest_fits _ _ _ _ _ c.args.self.stores_room c.args.self.buffers.ok.0
    (count_through so_far.gone c.loop-unopened.left.rest.items c.args.self.buffers.items
    c.in-Some.unopened c.next.new.self.rest.items so_far.all_is c.in-Some.ensures.cases.0)
    _ _ _ _
    (c.give_up-stores.result.ok.0 ∙ ap length c.give_up-stores.ensures.items
    ∙ length-append c.args.self.stores.items
    (map (λ buffer. store_of (buffer_of buffer)) c.loop-unopened.opened.items))
    (ap length c.args.self.none_back)
    (length-map c.loop-unopened.opened.items (λ buffer. store_of (buffer_of buffer))
    ∙ so_far.are.count)
    c.give_up-stores.ensures.capacity _ _ c.push_reserved-in-Err.ensures.len
    c.push_reserved-in-Err.ensures.capacity

-- the device of one fails, and all stores come back
pub returns-in-Err : goal.returns-in-Err
returns-in-Err g c =
    let codes = map (λ buffer. store_of (buffer_of buffer)) c.loop-unopened.opened.items in
    let store = store_of (inside (unopened_in c.in-Err.unopened)) in
    let more = c.next.new.self.rest.items in
    let stores = c.push_reserved-in-Err.ensures.items
    ∙ ap (λ items. items ++ c.into_store.result ∷ [])
    (c.give_up-stores.ensures.items ∙ ap (λ room. room ++ codes) c.args.self.none_back)
    ∙ ap (λ one. codes ++ one ∷ []) c.into_store.ensures in
    let was = failed_here c.args.self.buffers.items c.loop-unopened.left.rest.items
    c.loop-unopened.opened.items c.loop-unopened.invariant.so_far c.in-Some.unopened more
    c.in-Some.ensures.cases.0 c.len-place.result c.in-Err.unopened c.give_back.result.items
    (c.len-place.ensures ∙ c.loop-unopened.opened.ok.0) c.in-Err.ensures.failed
    (c.give_back.ensures.items ∙ ap (λ items. items ++ stores_of more) stores) in
    record {
      opened = tt;
      refusal = record {
        device = refl;
        place = c.len-place.result;
        within = below_as _ _ _ was.0 (sym (length-map c.args.self.buffers.items unopened_in));
        told = ap Some
            (c.number_of.ensures
            (below_most _ _ _ _ was.0 c.args.self.buffers.ok.0 c.args.self.few));
        left = was.1;
      };
    }
