use Rattle.std.proofs.Common.{◌≡◌, ◌+◌, ◌∙◌, ◌∷◌, [], ap, length, length-append}
use Rattle.std.proofs.lemmas.List.{length-replicate, take_all}
use Rattle.block_shelf.proofs.Fresh.{zeros_fresh}
use Rattle.relay_drill.proofs.Stores.{one_more_store, seen}
use Rattle.relay_drill.proofs.whole.new_stores.Goals as goal

-- one more buffer has its store
pub loop-buffer-preserved : goal.loop-buffer-preserved
loop-buffer-preserved c =
    let made = c.in_ok-store.ensures in
    record {
      room = rw c.push_reserved.ensures.capacity c.loop-buffer.invariant.room;
      count = rw c.push_reserved.ensures.items
          (length-append c.loop-buffer.stores.items (c.in_ok-store.store ∷ [])
          ∙ ap (λ n. n + 1) c.loop-buffer.invariant.count);
      made = rw c.push_reserved.ensures.items
          (one_more_store seen c.args.buffers.now c.loop-buffer.buffer-index
          c.buffer-item.result c.loop-buffer.stores.items c.in_ok-store.store
          c.loop-buffer-test.true c.buffer-item.is c.loop-buffer.invariant.made
          (ap length made.blocks ∙ length-replicate c.buffer-item.result.blocks _)
          (zeros_fresh seen c.in_ok-store.store c.buffer-item.result.blocks tt made.blocks)
          made.well);
    }

-- no buffer is left
pub returns : goal.returns
returns c =
    rw (take_all c.loop-buffer.buffer-index c.args.buffers.now c.loop-buffer-test.false)
    at c.loop-buffer.invariant.made
