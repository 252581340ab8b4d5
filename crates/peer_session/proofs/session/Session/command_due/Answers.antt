use Rattle.std.proofs.Common.{ap, sym}
use Rattle.article_verdict.specs.Config.{terms_of}
use Rattle.peer_session.proofs.PlanCommon.{if_ok}
use Rattle.peer_session.proofs.PlanLines.{ends_offer}
use Rattle.peer_session.proofs.session.Session.command_due.Goals as goal

pub returns-in-Some-clause-due : goal.returns-in-Some-clause-due
returns-in-Some-clause-due c =
    if_ok _ _ c.release_due.result (λ due asked.
    ends_offer (terms_of c.args.config.now) c.args.self.now c.args.now c.in-Some.id.now
    c.in-Some.ensures.0 due c.requires.ready c.in-Some.ensures.1 c.in-Some.ensures.2 asked)
    c.release_due.ensures
