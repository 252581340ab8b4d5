use Rattle.std.proofs.Common.{◌∙◌, ap, length, map, sym}
use Rattle.std.proofs.lemmas.List.{length-map, nil_from_length}
use Rattle.block_shelf.proofs.EachLemmas.{all_through, count_through, one_through}
use Rattle.relay_live.specs.Locked.{freed_value}
use Rattle.relay_live.proofs.Orders.{made_pushed}
use Rattle.relay_live.proofs.Rooms.{place_fits, still_fits}
use Rattle.relay_live.proofs.locking.values_of.Goals as goal

pub loop-one-init : goal.loop-one-init
loop-one-init g c = record {
  all = c.into_iter-one-iterator.ensures.into_iter_gives.0;
  values = c.requires.none;
  room = c.requires.room;
}

-- there is room for a value more
pub push_reserved-requires : goal.push_reserved-requires
push_reserved-requires g c =
    let inv = c.loop-one.invariant in
    place_fits _ _ _ _ _
    (c.loop-one.values.ok.0 ∙ ap length inv.values
    ∙ length-map c.loop-one.yielded freed_value)
    (count_through c.loop-one.yielded c.loop-one.one-iterator.rest.items c.args.freed.items
    c.in-Some.one c.next.new.self.rest.items inv.all c.in-Some.ensures.steps.0)
    inv.room

pub loop-one-preserved : goal.loop-one-preserved
loop-one-preserved g c =
    let inv = c.loop-one.invariant in
    record {
      all = one_through c.loop-one.yielded c.loop-one.one-iterator.rest.items c.args.freed.items
          c.in-Some.one c.next.new.self.rest.items inv.all c.in-Some.ensures.steps.0;
      values = made_pushed freed_value c.loop-one.values.items c.push_reserved.new.self.items
          c.into_value.result c.loop-one.yielded c.in-Some.one inv.values
          c.push_reserved.ensures.items c.into_value.ensures;
      room = still_fits _ _ _ inv.room c.push_reserved.ensures.capacity;
    }

-- that was the last
pub returns : goal.returns
returns g c =
    let rest = c.loop-one.one-iterator.rest in
    let values = c.loop-one.invariant.values
    ∙ ap (map freed_value) (all_through c.loop-one.yielded rest.items c.args.freed.items
    c.loop-one.invariant.all
    (nil_from_length rest.items (sym rest.ok.0 ∙ c.in-None.ensures.steps.0))) in
    record {
      values = values;
      count = ap length values ∙ length-map c.args.freed.items freed_value;
    }
