use Rattle.std.proofs.Common.{◌≡◌, ◌++◌, ◌∷◌, [], map}
use Rattle.std.proofs.lemmas.Result.{err_from_is_err_and}
use Rattle.std.proofs.lemmas.List.{map_push}
use Rattle.id_history.specs.Reading.{times_at}
use Rattle.id_history.proofs.Loop.{goes_on, ends, is_done}
use Rattle.id_history.proofs.reading.times.Goals as goal

-- the next one can't be read
pub returns-in_err-one : goal.returns-in_err-one
returns-in_err-one g c =
    let at = g.T.Readable.at in
    let p = err_from_is_err_and c.from_residual.result c.from_residual.ensures.1 in
    rw (p.1, p.2)
    (ends at c.in_err-one.field-0.0 (map g.T.Readable.said c.loop.all.items) c.args.count
    c.loop.counter c.loop.rest.now (times_at at c.args.count c.args.bytes.now)
    c.loop-test.true c.in_err-one.ensures c.loop.invariant)

-- one more was read
pub loop-preserved : goal.loop-preserved
loop-preserved g c =
    let at = g.T.Readable.at in
    let said = g.T.Readable.said in
    let more : map said c.push.new.self.items
    ≡ map said c.loop.all.items ++ said c.in_ok-one.one ∷ [] =
    rw c.in_ok-push.ensures.items (map_push said c.loop.all.items c.in_ok-one.one) in
    rw more
    (goes_on at (map said c.loop.all.items) c.args.count c.loop.counter
    c.loop.rest.now (said c.in_ok-one.one) c.in_ok-one.after.now
    (times_at at c.args.count c.args.bytes.now) c.loop-test.true c.in_ok-one.ensures
    c.loop.invariant)

-- all were read
pub returns : goal.returns
returns g c =
    let at = g.T.Readable.at in
    is_done at (map g.T.Readable.said c.loop.all.items) c.args.count c.loop.counter
    c.loop.rest.now (times_at at c.args.count c.args.bytes.now) c.loop-test.false
    c.loop.invariant
