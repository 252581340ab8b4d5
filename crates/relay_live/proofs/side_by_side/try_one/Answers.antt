use Rattle.std.proofs.Common.{◌∙◌, subst, sym}
use Rattle.relay_live.specs.Trials.{IsTriedIn}
use Rattle.relay_live.proofs.side_by_side.try_one.Goals as goal

-- it is started
pub returns-in-Ok : goal.returns-in-Ok
returns-in-Ok g c = λ store is.
    c.in-Ok.ensures.started store
    (subst (IsTriedIn c.args.number store) (sym c.take.ensures.value ∙ c.in-Some.is) is)

-- or refused
pub returns-in-Err : goal.returns-in-Err
returns-in-Err g c = λ store is.
    c.in-Err.ensures.refused store
    (subst (IsTriedIn c.args.number store) (sym c.take.ensures.value ∙ c.in-Some.is) is)
