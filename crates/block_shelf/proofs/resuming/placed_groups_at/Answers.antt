use Rattle.std.proofs.Common.{◌∙◌, ◌+◌, ap, arith, length, refl}
use Rattle.std.proofs.lemmas.Option.{slice_get_read}
use Rattle.block_shelf.proofs.EachLemmas.{all_read, none_each, one_read}
use Rattle.block_shelf.proofs.NewBufferSet.{group_filled}
use Rattle.block_shelf.specs.Resuming.{IsResumedAt}
use Rattle.block_shelf.proofs.resuming.placed_groups_at.Goals as goal

pub resume-requires : goal.resume-requires
resume-requires c =
    rw c.deref.ensures.value
    (group_filled c.args.settings.now c.loop-place.place c.group-item.result
    (rw c.deref-group-items.ensures.value at
    (slice_get_read c.deref-group-items.result.now _ c.loop-place.place c.group-item.result refl
    c.loop-place-test.true c.group-item.is)))

pub loop-place-preserved : goal.loop-place-preserved
loop-place-preserved c = record {
  count = c.push_reserved.ensures.len ∙ ap (λ n. n + 1) c.loop-place.invariant.count;
  room = omega (arith, c.push_reserved.ensures.capacity, c.loop-place.invariant.room);
  are = rw c.push_reserved.ensures.items
      (one_read c.args.settings.now.groups.items c.loop-place.place
      c.loop-place.placed_groups.items c.loop-place.invariant.are
      (rw c.deref-group-items.ensures.value at
      (slice_get_read c.deref-group-items.result.now _ c.loop-place.place c.group-item.result refl
      c.loop-place-test.true c.group-item.is))
      (rw (← c.at_place-position.ensures, ← c.deref.ensures.value) c.in_ok-resume.ensures));
}

pub returns : goal.returns
returns c =
    all_read c.args.settings.now.groups.items c.loop-place.place c.loop-place.invariant.are
    (omega (arith, c.loop-place-test.false, ap length c.deref-group-items.ensures.value))

pub push_reserved-requires : goal.push_reserved-requires
push_reserved-requires c = omega (
  arith,
  c.loop-place-test.true,
  ap length c.deref-group-items.ensures.value,
  c.loop-place.placed_groups.ok,
  c.loop-place.invariant.count,
  c.loop-place.invariant.room,
)

pub loop-place-init : goal.loop-place-init
loop-place-init c = record {
  count = omega (arith, c.in_ok-placed_groups.ensures.len);
  room = omega (
    arith,
    c.args.settings.now.groups.ok,
    c.len.ensures,
    c.in_ok-placed_groups.ensures.capacity,
  );
  are = rw c.in_ok-placed_groups.ensures.items
      (none_each (IsResumedAt c.args.settings.now.buffers.items c.args.positions.now
      c.args.used.now));
}
