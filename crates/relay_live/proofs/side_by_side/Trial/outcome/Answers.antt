use Rattle.std.proofs.Common.{subst, IfErr, IfOk}
use Rattle.relay_live.proofs.Trials.{start_gives, start_refuses, untried_is}
use Rattle.relay_live.specs.Trials.{IsRefusedOver, IsStartedAt}
use Rattle.relay_live.proofs.side_by_side.Trial.outcome.Goals as goal

-- what wasn't tried is started here
pub returns-in-Untried-clause-started : goal.returns-in-Untried-clause-started
returns-in-Untried-clause-started g c = λ store is.
    let e = c.start.ensures in
    subst (λ one. IfOk c.start.result (λ made. IsStartedAt c.args.number one made.0 made.1))
    (untried_is c.args.number store c.args.self c.in-Untried.store c.in-Untried.is is)
    (start_gives c.args.number c.in-Untried.store c.start.result (λ made. made.0) (λ made. made.1)
    e.agrees e.stop e.numbered e.started e.said e.unopened e.idle e.under e.same e.no_failure)

pub returns-in-Untried-clause-refused : goal.returns-in-Untried-clause-refused
returns-in-Untried-clause-refused g c = λ store is.
    let e = c.start.ensures in
    subst (λ one. IfErr c.start.result (IsRefusedOver g.S.BlockStore c.args.number one))
    (untried_is c.args.number store c.args.self c.in-Untried.store c.in-Untried.is is)
    (start_refuses g.S.BlockStore c.args.number c.in-Untried.store c.start.result e.refused
    e.reason e.held e.failed)
