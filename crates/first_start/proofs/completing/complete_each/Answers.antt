use Rattle.std.proofs.Common.{◌∙◌, length, arith}
use Rattle.first_start.specs.Completing.{CompletesHead}
use Rattle.buffer_repair.proofs.Changed.{same_made}
use Rattle.first_start.proofs.Walked.{all_walked, next_walked, there_now}
use Rattle.first_start.proofs.completing.complete_each.Goals as goal

-- a store whose head can't be written has as many blocks as before
pub returns-in-Err-clause-blocks : goal.returns-in-Err-clause-blocks
returns-in-Err-clause-blocks g c =
    same_made (λ store. length (g.S.BlockStore.blocks store)) c.loop-place.stores
    c.loop-place.place _ c.complete_one.new.store
    (there_now (CompletesHead g.S.BlockStore) c.args.stores.now c.loop-place.stores
    c.loop-place.place c.loop-place.invariant.walked c.index-stores-place.result
    c.loop-place-test.true)
    c.complete_one.ensures.blocks
    ∙ c.loop-place.invariant.counts

-- one more head is there
pub loop-place-preserved : goal.loop-place-preserved
loop-place-preserved g c = record {
  walked = next_walked (CompletesHead g.S.BlockStore) c.args.stores.now c.loop-place.stores
      c.loop-place.place c.loop-place.invariant.walked c.index-stores-place.result
      c.loop-place-test.true c.complete_one.new.store c.in-Ok.ensures.completed;
  counts = same_made (λ store. length (g.S.BlockStore.blocks store)) c.loop-place.stores
      c.loop-place.place _ c.complete_one.new.store
      (there_now (CompletesHead g.S.BlockStore) c.args.stores.now c.loop-place.stores
      c.loop-place.place c.loop-place.invariant.walked c.index-stores-place.result
      c.loop-place-test.true)
      c.complete_one.ensures.blocks
      ∙ c.loop-place.invariant.counts;
}

-- all of them are
pub returns-clause-completed : goal.returns-clause-completed
returns-clause-completed g c =
    all_walked (CompletesHead g.S.BlockStore) c.args.stores.now c.loop-place.stores
    c.loop-place.place c.loop-place.invariant.walked
    (omega (arith, c.loop-place-test.false, c.loop-place.auto.place-end))
