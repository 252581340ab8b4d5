use Rattle.id_history.proofs.Appends.{all_put, none_put, one_put}
use Rattle.id_history.proofs.writing.put_all.Goals as goal

-- none is put yet
pub loop-one-init : goal.loop-one-init
loop-one-init g c =
    let one = g.T.Writable in
    none_put one.octets one.Fits one.said c.args.out.now.items c.args.all.now

-- one more
pub loop-one-preserved : goal.loop-one-preserved
loop-one-preserved g c =
    let one = g.T.Writable in
    one_put one.octets one.Fits one.said c.args.out.now.items c.loop-one.out.items
    c.put.new.out.items c.args.all.now c.loop-one.one-index c.one-item.result
    c.loop-one-test.true c.one-item.is c.loop-one.invariant c.in_ok-put.ensures.octets
    c.in_ok-put.ensures.fits

-- all are behind what was there
pub returns-clause-octets : goal.returns-clause-octets
returns-clause-octets g c =
    let one = g.T.Writable in
    (all_put one.octets one.Fits one.said c.args.out.now.items c.loop-one.out.items c.args.all.now
    c.loop-one.one-index c.loop-one-test.false c.loop-one.invariant).0

-- each fits
pub returns-clause-fits : goal.returns-clause-fits
returns-clause-fits g c =
    let one = g.T.Writable in
    (all_put one.octets one.Fits one.said c.args.out.now.items c.loop-one.out.items c.args.all.now
    c.loop-one.one-index c.loop-one-test.false c.loop-one.invariant).1
