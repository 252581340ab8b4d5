use Rattle.std.proofs.Common.{arith}
use Rattle.post_history.proofs.PassingLemmas.{each_later, later_passes}
use Rattle.post_history.proofs.passing.are_later.Goals as goal

pub returns : goal.returns
returns c = λ yes.
    let old = c.args.old.now in
    let new = c.args.new.now in
    later_passes old new
    (each_later old new (omega (arith, c.if-old-new.false))
    (λ j o n below. c.loop-place.invariant j o n (omega (arith, below, c.loop-place-test.false))))
