use Rattle.std.proofs.Common.{◌≡◌, ◌∙◌, ◌<◌, ◌++◌, ℕ, ap, arith, length, map, refl}
use Rattle.std.proofs.Common.{Some, subst, sym, take}
use Rattle.std.proofs.lemmas.List.{nil_from_length, take_all}
use Rattle.std.proofs.lemmas.Option.{get_or_from_slice_get}
use Rattle.std.specs.Vec.Iter.{into_iter_items}
use Rattle.std.specs.Prelude.{slice_get}
use Rattle.relay_devices.proofs.Rooms.{next_fits, none_yet, one_came, room_of, still_fits}
use Rattle.buffer_files.proofs.Rows.{longer, none_left, one_more_made, one_more_read}
use Rattle.relay_devices.specs.Watched.{name_in, store_in}
use Rattle.relay_devices.proofs.watched.watch_all.Goals as goal

pub loop-store-init : goal.loop-store-init
loop-store-init g c =
    let gives = c.into_iter-store-iterator.ensures.into_iter_gives in
    let none = c.in_ok-all.ensures.items in
    record {
      count = none_yet _ _ _ (ap length none) (gives.1 ∙ c.args.stores.ok.0);
      room = room_of _ _ _ c.in_ok-all.ensures.capacity (c.len.ensures ∙ c.args.stores.ok.0);
      stores = λ i. map store_in (none i) ++ gives.0 i;
      names = ap (map name_in) none ∙ sym (ap (λ (n : ℕ). map (λ buffer. buffer.name)
          (take n c.args.settings.now.buffers.items)) (ap length none));
    }

-- it is of the buffer of its number,
pub name_at-name-requires : goal.name_at-name-requires
name_at-name-requires g c =
    omega (
      arith,
      c.len-in-loop-store.ensures,
      c.loop-store.all.ok.0,
      c.in-Some.ensures.steps.1,
      c.loop-store.invariant.count,
      c.requires.count,
    )

-- there is room for one more
pub push_reserved-requires : goal.push_reserved-requires
push_reserved-requires g c =
    next_fits _ _ _ _ _ _ c.loop-store.all.ok.0 c.in-Some.ensures.steps.1
    c.loop-store.invariant.count c.loop-store.invariant.room

-- one store more
pub loop-store-preserved : goal.loop-store-preserved
loop-store-preserved g c =
    let old = c.loop-store.all.items in
    let new = c.push_reserved.new.self.items in
    let before = c.loop-store.invariant in
    let steps = c.in-Some.ensures.steps in
    let pushed = c.push_reserved.ensures in
    let buffers = c.args.settings.now.buffers.items in
    let named = c.name_at-name.ensures in
    let place : c.len-in-loop-store.result ≡ length old =
    c.len-in-loop-store.ensures ∙ c.loop-store.all.ok.0 in
    let there = subst (λ (n : ℕ). slice_get buffers n ≡ Some named.0) place named.1 in
    let within : length old < length buffers =
    omega (arith, steps.1, before.count, c.requires.count) in
    record {
      count = one_came _ _ _ _ _ (longer store_in old new c.new.result pushed.items) steps.1
          before.count;
      room = still_fits _ _ _ before.room pushed.capacity;
      stores = one_more_read store_in old new c.new.result pushed.items c.args.stores.items
          (into_iter_items c.loop-store.store-iterator) (into_iter_items c.next.new.self)
          c.in-Some.store steps.0 c.new.ensures.store before.stores;
      names = one_more_made name_in old new c.new.result pushed.items (λ buffer. buffer.name)
          buffers buffers (length old) named.0 refl within
          (sym (get_or_from_slice_get buffers (length old) named.0 named.0 there))
          (c.new.ensures.name ∙ named.2) before.names
          ∙ sym (ap (λ (n : ℕ). map (λ buffer. buffer.name) (take n buffers))
          (longer name_in old new c.new.result pushed.items));
    }

-- that was the last
pub returns : goal.returns
returns g c =
    let rest = c.loop-store.store-iterator in
    record {
      stores = none_left (map store_in c.loop-store.all.items) (into_iter_items rest)
          c.args.stores.items
          (nil_from_length rest.rest.items
          (sym rest.rest.ok.0 ∙ c.in-None.ensures.steps.0))
          c.loop-store.invariant.stores;
      names = c.loop-store.invariant.names
          ∙ ap (map (λ buffer. buffer.name)) (take_all (length c.loop-store.all.items)
          c.args.settings.now.buffers.items
          (omega (
            arith,
            c.loop-store.invariant.count,
            c.in-None.ensures.steps.0,
            c.requires.count,
          )));
    }
