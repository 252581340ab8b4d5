use Rattle.std.proofs.Common.{ap, arith, length}
use Rattle.relay_remains.proofs.Again.{next_cycle, no_cycle}
use Rattle.relay_remains.proofs.positions.newest_cycles.Goals as goal
use Rattle.relay_remains.proofs.positions.newest_cycles.Goals.{then-number-all, else-number-all}

-- one number more
pub loop-number-preserved : goal.loop-number-preserved
loop-number-preserved g c =
    let same = c.deref-number-items.ensures.value in
    let had = c.loop-number.invariant in
    elim c.if-number-all.branch [
      | then-number-all w ↦ rw w.cycles-is (record {
        are = rw (w.push_reserved.ensures.items, w.newest_cycle.ensures, same)
            (next_cycle c.args.found_set.now c.args.all.now c.args.group.now.buffers.items
            c.loop-number.number-index c.loop-number.cycles.items
            (omega (arith, c.loop-number-test.true, ap length same))
            (rw same at w.if-number-all.true) had.are);
        count = omega (arith, had.count, w.push_reserved.ensures.len);
        room = omega (arith, had.room, w.push_reserved.ensures.capacity);
      })
      | else-number-all w ↦ rw w.cycles-is (record {
        are = no_cycle c.args.found_set.now c.args.all.now c.args.group.now.buffers.items
            c.loop-number.number-index c.loop-number.cycles.items
            (omega (arith, c.loop-number-test.true, ap length same))
            (rw same at w.if-number-all.false) had.are;
        count = omega (arith, had.count);
        room = had.room;
      })
    ]
