use Rattle.std.proofs.Common.{◌<◌, ◌∙◌, arith, length, sym}
use Rattle.relay_drill.proofs.Crashes.{one_more_sized}
use Rattle.relay_drill.proofs.Stores.{seen}
use Rattle.relay_drill.proofs.reviving.are_sized.Goals as goal

-- one more store has the size of its buffer
pub loop-place-preserved : goal.loop-place-preserved
loop-place-preserved c =
    let there : c.loop-place.place < length c.args.stores.now =
    omega (arith, c.loop-place-test.true, c.loop-place.invariant.count) in
    record {
      count = c.loop-place.invariant.count;
      sized = one_more_sized seen c.args.buffers.now c.args.stores.now c.loop-place.place
          c.index-buffers-place.result c.index-stores-place.result c.loop-place-test.true there
          c.index-buffers-place.is c.index-stores-place.is c.loop-place.invariant.sized
          (sym c.count.ensures.blocks ∙ c.if-count-buffer.false);
    }
