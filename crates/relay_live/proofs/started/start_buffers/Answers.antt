use Rattle.std.proofs.Common.{◌∙◌, ◌++◌, ◌∷◌, ◌<◌, [], ap, arith, length, map}
use Rattle.std.proofs.Common.{None, refl, subst, sym, ℕ}
use Rattle.std.proofs.lemmas.List.{length-append, length-map}
use Rattle.cyc_buffer.specs.Agreement.{store_of}
use Rattle.cyc_buffer.specs.Head.{inside}
use Rattle.block_shelf.specs.Starting.{IsFirstOther}
use Rattle.live_store.specs.Started.{unopened_in}
use Rattle.relay_live.proofs.Rooms.{front_fits, more_fits, no_more, place_fits, rest_fits, room_of}
use Rattle.relay_live.proofs.Rooms.{still_fits, whole_fits}
use Rattle.relay_live.proofs.BuffersInTurn.{StartedSoFar, next_store, refused_here, started_all}
use Rattle.relay_live.proofs.BuffersInTurn.{started_more, started_none}
use Rattle.relay_live.proofs.StartedBuffers.{mixed_start, untouched}
use Rattle.relay_live.proofs.Trials.{can_at, can_each, can_in}
use Rattle.relay_live.specs.Starting.{IsUnstarted, stores_of}
use Rattle.relay_live.specs.Trials.{CanTryIn, IsTriedIn, stores_in}
use Rattle.relay_live.proofs.started.start_buffers.Goals as goal

-- there is no room for the buffers
pub returns-in_default : goal.returns-in_default
returns-in_default g c =
    record {
      started = tt;
      refusal = subst (IsUnstarted g.S.BlockStore c.args.stores.items c.args.stop)
          (sym c.refused.ensures)
          (untouched g.S.BlockStore c.args.stores.items c.args.stop);
    }

-- or for what comes of them
pub returns-in_default-with_capacity : goal.returns-in_default-with_capacity
returns-in_default-with_capacity g c =
    record {
      started = tt;
      refusal = subst (IsUnstarted g.S.BlockStore c.args.stores.items c.args.stop)
          (sym c.refused-in_default-with_capacity.ensures)
          (untouched g.S.BlockStore c.args.stores.items c.args.stop);
    }

pub try_all-requires-clause-none : goal.try_all-requires-clause-none
try_all-requires-clause-none g c κs within = c.in-Ok-with_capacity.ensures.items

pub try_all-requires-clause-room : goal.try_all-requires-clause-room
try_all-requires-clause-room g c κs within =
    room_of _ _ _ c.in-Ok-with_capacity.ensures.capacity c.len-count.ensures

pub try_all-requires-clause-can : goal.try_all-requires-clause-can
try_all-requires-clause-can g c κs within =
    can_each g.S.BlockStore g.J.StorePremises c.args.stores.items c.requires.honest
    c.requires.stopped

pub loop-slot-init : goal.loop-slot-init
loop-slot-init g c =
    let room = c.in-Ok.ensures.room in
    record {
      so_far = subst (λ slots. StartedSoFar c.args.stop c.args.stores.items slots
          c.in-Ok.buffers.items None) (sym c.into_iter-left.ensures.rest)
          (subst (λ buffers. StartedSoFar c.args.stop c.args.stores.items c.try_all.result.items
          buffers None) (sym c.in-Ok.ensures.none.0)
          (started_none c.args.stop c.args.stores.items c.try_all.result.items
          c.try_all.ensures));
      room = room_of _ _ _ room.0 (c.len-count.ensures ∙ c.args.stores.ok.0);
    }

pub outcome_at-requires-clause-can : goal.outcome_at-requires-clause-can
outcome_at-requires-clause-can g c =
    let so_far = c.loop-slot.invariant.so_far in
    let next = next_store c.args.stop c.args.stores.items c.loop-slot.left.rest.items
    c.loop-slot.buffers.items c.loop-slot.mixed so_far c.in-Some.slot c.next.new.self.rest.items
    c.in-Some.ensures.cases.0 in
    let number = c.len-number.ensures ∙ c.loop-slot.buffers.ok.0 ∙ so_far.over.count in
    subst (λ n. CanTryIn n c.in-Some.slot) (sym number)
    (can_in (length so_far.gone) next.store c.in-Some.slot next.tried
    (can_at g.S.BlockStore g.J.StorePremises c.args.stores.items c.requires.honest
    c.requires.stopped (length so_far.gone) next.store next.there))

-- there is room for a buffer more, and its number fits
pub overflow_cast-number : goal.overflow_cast-number
overflow_cast-number g c =
    let so_far = c.loop-slot.invariant.so_far in
    let fits : c.len-number.result < 256 = place_fits _ _ _ _ _
    (c.len-number.ensures ∙ c.loop-slot.buffers.ok.0 ∙ so_far.over.count)
    (next_store c.args.stop c.args.stores.items c.loop-slot.left.rest.items
    c.loop-slot.buffers.items c.loop-slot.mixed so_far c.in-Some.slot c.next.new.self.rest.items
    c.in-Some.ensures.cases.0).count
    c.requires.few in
    omega (arith, fits)

pub push_reserved-requires : goal.push_reserved-requires
push_reserved-requires g c =
    let so_far = c.loop-slot.invariant.so_far in
    place_fits _ _ _ _ _ (c.loop-slot.buffers.ok.0 ∙ so_far.over.count)
    (next_store c.args.stop c.args.stores.items c.loop-slot.left.rest.items
    c.loop-slot.buffers.items c.loop-slot.mixed so_far c.in-Some.slot c.next.new.self.rest.items
    c.in-Some.ensures.cases.0).count
    c.loop-slot.invariant.room

-- one buffer more is started
pub loop-slot-preserved : goal.loop-slot-preserved
loop-slot-preserved g c =
    let so_far = c.loop-slot.invariant.so_far in
    let left = c.next.new.self.rest.items in
    let one = c.in-Ok-outcome_at.unopened in
    let number = c.len-number.result in
    let next = next_store c.args.stop c.args.stores.items c.loop-slot.left.rest.items
    c.loop-slot.buffers.items c.loop-slot.mixed so_far c.in-Some.slot left
    c.in-Some.ensures.cases.0 in
    let at = c.len-number.ensures ∙ c.loop-slot.buffers.ok.0 in
    record {
      so_far = subst (λ buffers. StartedSoFar c.args.stop c.args.stores.items left buffers
          c.first_other-mixed.result) (sym c.push_reserved.ensures.items)
          (subst (StartedSoFar c.args.stop c.args.stores.items left
          (c.loop-slot.buffers.items ++ one ∷ [])) (sym c.first_other-mixed.ensures)
          (started_more c.args.stop c.args.stores.items c.loop-slot.left.rest.items
          c.loop-slot.buffers.items c.loop-slot.mixed so_far c.in-Some.slot left
          c.in-Some.ensures.cases.0 number at one c.in-Ok-outcome_at.found
          (c.in-Ok-outcome_at.ensures.started next.store
          (subst (λ n. IsTriedIn n next.store c.in-Some.slot) (sym (at ∙ so_far.over.count))
          next.tried))));
      room = still_fits _ _ _ c.loop-slot.invariant.room c.push_reserved.ensures.capacity;
    }

-- there is room for the stores of all
pub give_back-stores-requires : goal.give_back-stores-requires
give_back-stores-requires g c =
    let so_far = c.loop-slot.invariant.so_far in
    front_fits _ _ _ _ _ c.in-Ok.ensures.room.2 (c.len-count.ensures ∙ c.args.stores.ok.0)
    (next_store c.args.stop c.args.stores.items c.loop-slot.left.rest.items
    c.loop-slot.buffers.items c.loop-slot.mixed so_far c.in-Some.slot c.next.new.self.rest.items
    c.in-Some.ensures.cases.0).count
    _ _ (ap length c.into_iter.ensures.rest ∙ so_far.over.count)
    (c.in-Ok.room.ok.0 ∙ ap length c.in-Ok.ensures.none.2)

pub push_reserved-requires-in-Err : goal.push_reserved-requires-in-Err
push_reserved-requires-in-Err g c =
    let so_far = c.loop-slot.invariant.so_far in
    more_fits _ _ _ _ _ c.in-Ok.ensures.room.2 (c.len-count.ensures ∙ c.args.stores.ok.0)
    (next_store c.args.stop c.args.stores.items c.loop-slot.left.rest.items
    c.loop-slot.buffers.items c.loop-slot.mixed so_far c.in-Some.slot c.next.new.self.rest.items
    c.in-Some.ensures.cases.0).count
    _ _ _ _
    (c.give_back-stores.result.ok.0 ∙ ap length c.give_back-stores.ensures.items
    ∙ length-append c.in-Ok.room.items (stores_of c.into_iter.result.rest.items))
    (ap length c.in-Ok.ensures.none.2)
    (length-map c.into_iter.result.rest.items (λ one. store_of (inside (unopened_in one)))
    ∙ ap length c.into_iter.ensures.rest ∙ so_far.over.count)
    c.give_back-stores.ensures.capacity

pub with_rest-requires : goal.with_rest-requires
with_rest-requires g c =
    let so_far = c.loop-slot.invariant.so_far in
    rest_fits _ _ _ _ _ c.in-Ok.ensures.room.2 (c.len-count.ensures ∙ c.args.stores.ok.0)
    (next_store c.args.stop c.args.stores.items c.loop-slot.left.rest.items
    c.loop-slot.buffers.items c.loop-slot.mixed so_far c.in-Some.slot c.next.new.self.rest.items
    c.in-Some.ensures.cases.0).count
    _ _ _ _
    (c.give_back-stores.result.ok.0 ∙ ap length c.give_back-stores.ensures.items
    ∙ length-append c.in-Ok.room.items (stores_of c.into_iter.result.rest.items))
    (ap length c.in-Ok.ensures.none.2)
    (length-map c.into_iter.result.rest.items (λ one. store_of (inside (unopened_in one)))
    ∙ ap length c.into_iter.ensures.rest ∙ so_far.over.count)
    c.give_back-stores.ensures.capacity _ _ c.push_reserved-in-Err.ensures.len
    c.push_reserved-in-Err.ensures.capacity

-- it is refused, and the stores behind it come back
pub returns-in-Err : goal.returns-in-Err
returns-in-Err g c =
    let so_far = c.loop-slot.invariant.so_far in
    let left = c.next.new.self.rest.items in
    let buffers = c.loop-slot.buffers.items in
    let next = next_store c.args.stop c.args.stores.items c.loop-slot.left.rest.items buffers
    c.loop-slot.mixed so_far c.in-Some.slot left c.in-Some.ensures.cases.0 in
    let at = c.len-number.ensures ∙ c.loop-slot.buffers.ok.0 in
    record {
      started = tt;
      refusal = refused_here c.args.stop c.args.stores.items c.loop-slot.left.rest.items buffers
          c.loop-slot.mixed so_far c.in-Some.slot left
          c.in-Some.ensures.cases.0 c.len-number.result at c.in-Err.refused
          c.fault_of.result c.blamed.result c.with_rest.result.items
          (c.in-Err.ensures.refused next.store
          (subst (λ n. IsTriedIn n next.store c.in-Some.slot) (sym (at ∙ so_far.over.count))
          next.tried))
          c.fault_of.ensures c.blamed.ensures
          (c.with_rest.ensures
          ∙ ap (λ items. items ++ stores_in left)
          (c.push_reserved-in-Err.ensures.items
          ∙ ap (λ items. items ++ c.in-Err.refused.store ∷ [])
          (c.give_back-stores.ensures.items
          ∙ ap (λ items. items ++ stores_of c.into_iter.result.rest.items) c.in-Ok.ensures.none.2
          ∙ ap stores_of c.into_iter.ensures.rest)));
    }

-- one was stopped at another stop
pub returns-in-Some-mixed : goal.returns-in-Some-mixed
returns-in-Some-mixed g c =
    let buffers = c.loop-slot.buffers.items in
    record {
      started = tt;
      refusal = mixed_start c.args.stores.items c.args.stop buffers c.in-Ok.room.items
          c.give_back.result.items c.in-Some-mixed.number
          (started_all c.args.stop c.args.stores.items c.loop-slot.left.rest.items buffers
          c.loop-slot.mixed c.loop-slot.invariant.so_far
          (sym c.loop-slot.left.rest.ok.0 ∙ c.in_default-next.ensures.cases.0))
          c.in-Ok.ensures.none.2
          (subst (IsFirstOther c.args.stop (map unopened_in buffers)) c.in-Some-mixed.is
          c.loop-slot.invariant.so_far.first)
          (c.give_back.ensures.items
          ∙ ap (λ items. c.in-Ok.room.items ++ stores_of items)
          c.into_iter-in-Some-mixed.ensures.rest);
    }

-- all are started, at this stop
pub returns-in-None : goal.returns-in-None
returns-in-None g c =
    record {
      started = record {
        over = started_all c.args.stop c.args.stores.items c.loop-slot.left.rest.items
            c.loop-slot.buffers.items c.loop-slot.mixed c.loop-slot.invariant.so_far
            (sym c.loop-slot.left.rest.ok.0 ∙ c.in_default-next.ensures.cases.0);
        under = subst (IsFirstOther c.args.stop (map unopened_in c.loop-slot.buffers.items))
            c.in-None.is
            c.loop-slot.invariant.so_far.first;
      };
      refusal = tt;
    }

-- and there is room for them once they are open, and for their stores
pub invariant_of-result : goal.invariant_of-result
invariant_of-result g c =
    let count = (started_all c.args.stop c.args.stores.items c.loop-slot.left.rest.items
    c.loop-slot.buffers.items c.loop-slot.mixed c.loop-slot.invariant.so_far
    (sym c.loop-slot.left.rest.ok.0 ∙ c.in_default-next.ensures.cases.0)).count in
    let long = c.len-count.ensures ∙ c.args.stores.ok.0
    ∙ sym (c.loop-slot.buffers.ok.0 ∙ count) in
    let room = c.in-Ok.ensures.room in
    record {
      few = no_more _ _ _ (c.loop-slot.buffers.ok.0 ∙ count) c.requires.few;
      none_opened = c.in-Ok.ensures.none.1;
      none_back = c.in-Ok.ensures.none.2;
      opened_room = room_of _ _ _ room.1 long;
      stores_room = room_of _ _ _ room.2 long;
    }

pub give_back-requires : goal.give_back-requires
give_back-requires g c =
    let count = (started_all c.args.stop c.args.stores.items c.loop-slot.left.rest.items
    c.loop-slot.buffers.items c.loop-slot.mixed c.loop-slot.invariant.so_far
    (sym c.loop-slot.left.rest.ok.0 ∙ c.in_default-next.ensures.cases.0)).count in
    whole_fits _ _ _ _ _ c.in-Ok.ensures.room.2 (c.len-count.ensures ∙ c.args.stores.ok.0)
    (ap length c.into_iter-in-Some-mixed.ensures.rest ∙ count)
    (c.in-Ok.room.ok.0 ∙ ap length c.in-Ok.ensures.none.2)
