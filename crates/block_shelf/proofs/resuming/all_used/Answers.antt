use Rattle.std.proofs.Common.{arith, map, take}
use Rattle.std.proofs.lemmas.List.{map_push, take_all, take_more}
use Rattle.cyc_buffer.specs.Head.{inside}
use Rattle.block_shelf.proofs.EachLemmas.{none_each, one_more_each}
use Rattle.block_shelf.specs.Resuming.{IsUsed}
use Rattle.block_shelf.proofs.resuming.all_used.Goals as goal

-- there is room for the next
pub push_reserved-requires : goal.push_reserved-requires
push_reserved-requires g c = omega (
  arith,
  c.loop-unopened-test.true,
  c.loop-unopened.invariant.count,
  c.loop-unopened.invariant.room,
)

-- one buffer more
pub loop-unopened-preserved : goal.loop-unopened-preserved
loop-unopened-preserved g c =
    let all = c.args.buffers.now in
    let k = c.loop-unopened.unopened-index in
    record {
      count = omega (arith, c.push_reserved.ensures.len, c.loop-unopened.invariant.count);
      room = omega (arith, c.push_reserved.ensures.capacity, c.loop-unopened.invariant.room);
      are = rw (
        c.push_reserved.ensures.items,
        take_more all k c.unopened-item.result c.loop-unopened-test.true,
        ← c.unopened-item.is,
        map_push,
      )
          (one_more_each IsUsed (map inside (take k all)) c.loop-unopened.used.items
          (inside c.unopened-item.result) c.used_in.result c.loop-unopened.invariant.are
          (rw c.buffer.ensures at c.used_in.ensures));
    }

-- none yet
pub loop-unopened-init : goal.loop-unopened-init
loop-unopened-init g c = record {
  count = omega (arith, c.in_ok-used.ensures.len);
  room = omega (arith, c.in_ok-used.ensures.capacity);
  are = rw c.in_ok-used.ensures.items (none_each IsUsed);
}

-- that was the last
pub returns : goal.returns
returns g c =
    rw (take_all c.loop-unopened.unopened-index c.args.buffers.now
    (omega (arith, c.loop-unopened-test.false))) at c.loop-unopened.invariant.are
