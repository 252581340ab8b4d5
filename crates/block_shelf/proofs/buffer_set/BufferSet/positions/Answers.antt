use Rattle.std.proofs.Common.{◌∙◌, ◌+◌, ap, arith, length, refl}
use Rattle.std.proofs.lemmas.Option.{slice_get_read}
use Rattle.block_shelf.proofs.EachLemmas.{all_read, none_each, one_read}
use Rattle.block_shelf.proofs.Placed.{told_positions}
use Rattle.block_shelf.specs.Stopping.{TellsPosition}
use Rattle.block_shelf.proofs.buffer_set.BufferSet.positions.Goals as goal

pub loop-placed_group-preserved : goal.loop-placed_group-preserved
loop-placed_group-preserved g c = record {
  count = c.push_reserved.ensures.len ∙ ap (λ n. n + 1) c.loop-placed_group.invariant.count;
  room = omega (arith, c.push_reserved.ensures.capacity, c.loop-placed_group.invariant.room);
  told = rw c.push_reserved.ensures.items
      (one_read c.args.self.now.placed_groups.items c.loop-placed_group.placed_group-index
      c.loop-placed_group.positions.items c.loop-placed_group.invariant.told
      (rw c.deref-placed_group-items.ensures.value at
      (slice_get_read c.deref-placed_group-items.result.now _
      c.loop-placed_group.placed_group-index c.placed_group-item.result refl
      c.loop-placed_group-test.true c.placed_group-item.is))
      c.position.ensures);
}

pub returns : goal.returns
returns g c =
    told_positions c.args.self.now c.loop-placed_group.positions.items
    (all_read c.args.self.now.placed_groups.items c.loop-placed_group.placed_group-index
    c.loop-placed_group.invariant.told
    (omega (
      arith,
      c.loop-placed_group-test.false,
      ap length c.deref-placed_group-items.ensures.value,
    )))

pub loop-placed_group-init : goal.loop-placed_group-init
loop-placed_group-init g c = record {
  count = omega (arith, c.in_ok-positions.ensures.len);
  room = omega (
    arith,
    c.args.self.now.placed_groups.ok,
    c.len.ensures,
    c.in_ok-positions.ensures.capacity,
  );
  told = rw c.in_ok-positions.ensures.items (none_each TellsPosition);
}
