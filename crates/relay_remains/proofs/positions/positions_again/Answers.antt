use Rattle.std.proofs.Common.{◌≡◌, ap, arith, length, refl}
use Rattle.std.proofs.lemmas.List.{length-map}
use Rattle.relay_conf.specs.Places.{group_over, group_view, mode_view, numbered_buffers}
use Rattle.block_shelf.proofs.EachLemmas.{all_read, one_read}
use Rattle.relay_remains.specs.Positions.{IsPositionOf, cycles_in}
use Rattle.relay_remains.proofs.Again.{counted_cycles, group_there, position_by, positions_are}
use Rattle.relay_remains.proofs.positions.positions_again.Goals as goal

-- the group has a buffer, and not more than there are
pub position_again-requires : goal.position_again-requires
position_again-requires g c =
    let settings = c.args.settings.now in
    let counted = counted_cycles settings c.args.found_set.now c.loop-place.place
    c.group-item.result c.deref-in-loop-place.result.now
    (group_there settings c.deref-group-items.result.now c.loop-place.place c.group-item.result
    c.deref-group-items.ensures.value c.loop-place-test.true c.group-item.is)
    (rw (c.deref-in-loop-place.ensures.value, c.in_ok-cycles.ensures, c.deref.ensures.value) refl)
    in
    record { some = counted.0; few = counted.1 }

-- one group more
pub loop-place-preserved : goal.loop-place-preserved
loop-place-preserved g c =
    let settings = c.args.settings.now in
    let buffers = (group_over (numbered_buffers settings.buffers.items)
    (group_view c.group-item.result)).buffers in
    let cycles : c.deref-in-loop-place.result.now ≡ cycles_in c.args.found_set.now buffers =
    rw (c.deref-in-loop-place.ensures.value, c.in_ok-cycles.ensures, c.deref.ensures.value) refl in
    record {
      count = omega (arith, c.push_reserved.ensures.len, c.loop-place.invariant.count);
      room = omega (arith, c.push_reserved.ensures.capacity, c.loop-place.invariant.room);
      are = rw c.push_reserved.ensures.items
          (one_read {Belong = IsPositionOf settings.buffers.items c.args.old c.args.found_set.now}
          settings.groups.items c.loop-place.place c.loop-place.positions.items
          c.loop-place.invariant.are
          (group_there settings c.deref-group-items.result.now c.loop-place.place
          c.group-item.result c.deref-group-items.ensures.value c.loop-place-test.true
          c.group-item.is)
          (record {
            is = position_by c.args.found_set.now (mode_view c.group-item.result.mode) buffers _ _
                (rw (← c.kept_position.ensures, ← cycles) c.position_again.ensures.is);
            within = simp length-map at (rw cycles at c.position_again.ensures.within);
          }));
    }

-- that was the last
pub returns : goal.returns
returns g c =
    positions_are c.args.settings.now c.args.old c.args.found_set.now c.loop-place.positions.items
    (all_read c.args.settings.now.groups.items c.loop-place.place c.loop-place.invariant.are
    (omega (arith, c.loop-place-test.false, ap length c.deref-group-items.ensures.value)))
