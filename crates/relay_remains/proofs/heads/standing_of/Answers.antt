use Rattle.relay_remains.proofs.Ended.{fault_counts, fault_unwritten, first_fault, next_read}
use Rattle.relay_remains.proofs.Ended.{none_read}
use Rattle.relay_remains.proofs.heads.standing_of.Goals as goal

-- no head yet
pub loop-place-init : goal.loop-place-init
loop-place-init g c = none_read g.S.BlockStore c.args.stop c.args.stores.now

-- one head more
pub loop-place-preserved : goal.loop-place-preserved
loop-place-preserved g c =
    rw c.with-standing.ensures
    (next_read g.S.BlockStore c.args.stop c.args.stores.now c.loop-place.stores c.loop-place.place
    c.loop-place.standing c.loop-place.invariant c.index-stores-place.result c.loop-place-test.true
    c.in-Ok.next c.standing_in.new.store c.in-Ok.ensures.told c.in-Ok.ensures.unwritten)

-- or a fault
pub returns-in-Err-clause-told : goal.returns-in-Err-clause-told
returns-in-Err-clause-told g c =
    first_fault g.S.BlockStore c.args.stop c.args.stores.now c.loop-place.stores c.loop-place.place
    c.loop-place.standing c.loop-place.invariant c.index-stores-place.result c.loop-place-test.true
    c.in-Err.error c.standing_in.new.store c.in-Err.ensures.unwritten c.in-Err.ensures.told

pub returns-in-Err-clause-unwritten : goal.returns-in-Err-clause-unwritten
returns-in-Err-clause-unwritten g c =
    fault_unwritten g.S.BlockStore c.args.stop c.args.stores.now c.loop-place.stores
    c.loop-place.place c.loop-place.standing c.loop-place.invariant c.index-stores-place.result
    c.loop-place-test.true c.in-Err.error c.standing_in.new.store c.in-Err.ensures.unwritten

pub returns-in-Err-clause-counts : goal.returns-in-Err-clause-counts
returns-in-Err-clause-counts g c =
    fault_counts g.S.BlockStore c.args.stop c.args.stores.now c.loop-place.stores c.loop-place.place
    c.loop-place.standing c.loop-place.invariant c.index-stores-place.result c.loop-place-test.true
    c.in-Err.error c.standing_in.new.store c.in-Err.ensures.unwritten
