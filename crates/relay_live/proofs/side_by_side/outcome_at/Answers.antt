use Rattle.std.proofs.Common.{subst}
use Rattle.relay_live.specs.Trials.{IsTriedIn}
use Rattle.relay_live.proofs.side_by_side.outcome_at.Goals as goal

pub returns-clause-started : goal.returns-clause-started
returns-clause-started g c = λ store is.
    c.outcome.ensures.started store (subst (IsTriedIn c.args.number store) c.in-Some.is is)
