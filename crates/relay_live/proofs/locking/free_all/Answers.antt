use Rattle.std.proofs.Common.{◌∙◌, ap, length, map, sym}
use Rattle.std.proofs.lemmas.List.{length-map, nil_from_length}
use Rattle.block_shelf.proofs.EachLemmas.{all_through, count_through, one_through}
use Rattle.relay_live.specs.Locked.{freed_number, number_of}
use Rattle.relay_live.proofs.Orders.{as_long, both_pushed}
use Rattle.relay_live.proofs.Rooms.{place_fits, still_fits}
use Rattle.relay_live.proofs.locking.free_all.Goals as goal

pub loop-locked-init : goal.loop-locked-init
loop-locked-init g c = record {
  all = c.into_iter-locked-iterator.ensures.into_iter_gives.0;
  numbers = ap (map freed_number) c.requires.none;
  room = c.requires.room;
}

-- there is room for a value more
pub push_reserved-requires : goal.push_reserved-requires
push_reserved-requires g c =
    let inv = c.loop-locked.invariant in
    place_fits _ _ _ _ _
    (c.loop-locked.values.ok.0 ∙ sym (length-map c.loop-locked.values.items freed_number)
    ∙ ap length inv.numbers ∙ length-map c.loop-locked.yielded number_of)
    (count_through c.loop-locked.yielded c.loop-locked.locked-iterator.rest.items
    c.args.locks.items c.in-Some.locked c.next.new.self.rest.items inv.all
    c.in-Some.ensures.steps.0)
    inv.room

pub loop-locked-preserved : goal.loop-locked-preserved
loop-locked-preserved g c =
    let inv = c.loop-locked.invariant in
    record {
      all = one_through c.loop-locked.yielded c.loop-locked.locked-iterator.rest.items
          c.args.locks.items c.in-Some.locked c.next.new.self.rest.items inv.all
          c.in-Some.ensures.steps.0;
      numbers = both_pushed freed_number number_of c.loop-locked.values.items
          c.push_reserved.new.self.items c.free.result c.loop-locked.yielded c.in-Some.locked
          inv.numbers c.push_reserved.ensures.items c.free.ensures;
      room = still_fits _ _ _ inv.room c.push_reserved.ensures.capacity;
    }

-- that was the last
pub returns : goal.returns
returns g c =
    let rest = c.loop-locked.locked-iterator.rest in
    let numbers = c.loop-locked.invariant.numbers
    ∙ ap (map number_of) (all_through c.loop-locked.yielded rest.items c.args.locks.items
    c.loop-locked.invariant.all
    (nil_from_length rest.items (sym rest.ok.0 ∙ c.in-None.ensures.steps.0))) in
    record {
      numbers = numbers;
      count = as_long freed_number c.loop-locked.values.items (map number_of c.args.locks.items)
          numbers ∙ length-map c.args.locks.items number_of;
    }
