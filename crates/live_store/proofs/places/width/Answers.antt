use Rattle.std.proofs.Common.{arith}
use Rattle.std.proofs.Math.Nat.{mod-eq_of_lt}
use Rattle.live_store.proofs.Spans.{span_few}
use Rattle.live_store.proofs.places.width.Goals as goal

pub returns-clause-places : goal.returns-clause-places
returns-clause-places c =
    let few = span_few c.args.octave c.requires in
    mod-eq_of_lt (omega (arith, few))

pub returns-clause-few : goal.returns-clause-few
returns-clause-few c =
    let few = span_few c.args.octave c.requires in
    let same = returns-clause-places c in
    omega (arith, few, same)
