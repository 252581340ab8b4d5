use Rattle.std.proofs.Common.{◌+◌, arith, subst, sym}
use Rattle.relay_startup.proofs.HeadsRead.{HeadsRead, all_read, counts_next, next_read}
use Rattle.relay_startup.proofs.found_heads.read_heads.Goals as goal

-- a store whose head can't be read has as many blocks as before
pub returns-in-Err-clause-blocks : goal.returns-in-Err-clause-blocks
returns-in-Err-clause-blocks g c =
    counts_next g.S.BlockStore c.args.stores.now c.loop-place.stores c.loop-place.place
    c.loop-place.heads.items c.loop-place.invariant.read c.index-stores-place.result
    c.loop-place-test.true c.head_in.new.store c.head_in.ensures.blocks

-- one head more is read
pub loop-place-preserved : goal.loop-place-preserved
loop-place-preserved g c = record {
  read = subst
      (HeadsRead g.S.BlockStore c.args.stores.now _ (c.loop-place.place + 1))
      (sym c.push_reserved.ensures.items)
      (next_read g.S.BlockStore c.args.stores.now c.loop-place.stores c.loop-place.place
      c.loop-place.heads.items c.loop-place.invariant.read c.index-stores-place.result
      c.loop-place-test.true c.in-Ok.head c.head_in.new.store c.in-Ok.ensures.head
      c.in-Ok.ensures.unwritten);
  room = omega (arith, c.push_reserved.ensures.capacity, c.loop-place.invariant.room);
}

-- all of them are read
pub returns-clause-heads : goal.returns-clause-heads
returns-clause-heads g c =
    all_read g.S.BlockStore c.args.stores.now c.loop-place.stores c.loop-place.place
    c.loop-place.heads.items c.loop-place.invariant.read
    (omega (arith, c.loop-place-test.false, c.loop-place.auto.place-end))
