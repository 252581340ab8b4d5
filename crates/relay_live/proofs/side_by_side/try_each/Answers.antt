use Rattle.std.proofs.Common.{subst, sym}
use Rattle.relay_live.specs.Trials.{IsTriedIn}
use Rattle.relay_live.proofs.side_by_side.try_each.Goals as goal

-- what came of each is what its thread left at its place
pub returns-clause-tries : goal.returns-clause-tries
returns-clause-tries g c = λ b d within store is.
    let one = (c.for_each_mut.ensures b d within).1 in
    subst (IsTriedIn b store) one.left
    (one.call store (subst (IsTriedIn b store) (sym one.argument_is) is))
