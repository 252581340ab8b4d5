use Rattle.std.proofs.Common.{ap, arith, length, refl, sym}
use Rattle.std.proofs.lemmas.Bool.{ltb-true, ltb-false}
use Rattle.std.proofs.lemmas.List.{take_all}
use Rattle.std.proofs.lemmas.Option.{slice_get_read}
use Rattle.block_shelf.proofs.NewBufferSet.{none_more, one_more}
use Rattle.block_shelf.proofs.filling.members_of.Goals as goal

-- there is room for the next number and the next blocks
pub push_reserved-requires : goal.push_reserved-requires
push_reserved-requires c = omega (
  arith,
  c.loop-number-test.true,
  ap length c.deref-number-items.ensures.value,
  c.loop-number.invariant.numbers,
  c.loop-number.invariant.numbers_room,
)

pub push_reserved-requires-in-loop-number : goal.push_reserved-requires-in-loop-number
push_reserved-requires-in-loop-number c = omega (
  arith,
  c.loop-number-test.true,
  ap length c.deref-number-items.ensures.value,
  c.loop-number.invariant.blocks,
  c.loop-number.invariant.blocks_room,
)

-- no number yet
pub loop-number-init : goal.loop-number-init
loop-number-init c = record {
  named = rw (c.in_ok-numbers.ensures.items, c.in_ok-blocks.ensures.items)
      (record { numbers = refl; blocks = refl });
  numbers = omega (arith, c.in_ok-numbers.ensures.len);
  blocks = omega (arith, c.in_ok-blocks.ensures.len);
  numbers_room = omega (
    arith,
    c.args.group.now.buffers.ok,
    c.len.ensures,
    c.in_ok-numbers.ensures.capacity,
  );
  blocks_room = omega (
    arith,
    c.args.group.now.buffers.ok,
    c.len-2.ensures,
    c.in_ok-blocks.ensures.capacity,
  );
}

-- a number without a buffer is passed
pub loop-number-preserved-in_default : goal.loop-number-preserved-in_default
loop-number-preserved-in_default c =
    let same = c.deref-number-items.ensures.value in
    let had = c.loop-number.invariant in
    record {
      named = none_more c.args.all.now c.args.group.now.buffers.items c.loop-number.number-index
          c.loop-number.numbers.items c.loop-number.blocks.items
          (omega (arith, c.loop-number-test.true, ap length same))
          (rw same at (ltb-false _ _ (sym c.in_default.ensures.lookup.0))) had.named;
      numbers = omega (arith, had.numbers);
      blocks = omega (arith, had.blocks);
      numbers_room = had.numbers_room;
      blocks_room = had.blocks_room;
    }

-- another one joins those before it
pub loop-number-preserved : goal.loop-number-preserved
loop-number-preserved c =
    let same = c.deref-number-items.ensures.value in
    let had = c.loop-number.invariant in
    record {
      named = rw (c.push_reserved.ensures.items, c.push_reserved-in-loop-number.ensures.items, same)
          (one_more c.args.all.now c.args.group.now.buffers.items c.loop-number.number-index
          c.loop-number.numbers.items c.loop-number.blocks.items c.in-Some.buffer.now
          (omega (arith, c.loop-number-test.true, ap length same))
          (rw same at (slice_get_read c.args.all.now (length c.args.all.now) _ c.in-Some.buffer.now
          refl (ltb-true _ _ (sym c.in-Some.ensures.lookup.0)) c.in-Some.ensures.lookup.1))
          had.named);
      numbers = omega (arith, had.numbers, c.push_reserved.ensures.len);
      blocks = omega (arith, had.blocks, c.push_reserved-in-loop-number.ensures.len);
      numbers_room = omega (arith, had.numbers_room, c.push_reserved.ensures.capacity);
      blocks_room = omega (arith, had.blocks_room, c.push_reserved-in-loop-number.ensures.capacity);
    }

-- that was the last
pub returns : goal.returns
returns c =
    rw (take_all c.loop-number.number-index c.args.group.now.buffers.items
    (omega (arith, c.loop-number-test.false, ap length c.deref-number-items.ensures.value)))
    at c.loop-number.invariant.named
