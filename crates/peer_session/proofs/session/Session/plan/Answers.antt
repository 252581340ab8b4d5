use Rattle.article_verdict.specs.Config.{terms_of}
use Rattle.peer_session.proofs.PlanCommon.{plan_given}
use Rattle.peer_session.proofs.session.Session.plan.Goals as goal

pub returns-clause-due : goal.returns-clause-due
returns-clause-due c =
    rw (c.replace.ensures.after, c.new-planned.ensures)
    (plan_given (terms_of c.args.config.now) c.args.self.now c.due.new.self c.args.now
    c.in_ok-due.due c.in_ok-due.ensures.due)
