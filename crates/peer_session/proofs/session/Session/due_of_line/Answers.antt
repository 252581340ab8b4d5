use Rattle.std.proofs.Common.{◌≡◌, ◌∙◌, ap, subst, take, drop}
use Rattle.news_terms.specs.Command.{command_of}
use Rattle.article_verdict.specs.Config.{terms_of}
use Rattle.peer_session.specs.Asking.{IsAskedBy}
use Rattle.peer_session.proofs.PlanLines.{plans_line}
use Rattle.peer_session.proofs.session.Session.due_of_line.Goals as goal

pub returns : goal.returns
returns c =
    let kept : c.kept.result.now ≡ c.args.self.now.cutter.unread =
    c.kept.ensures
    ∙ ap (λ dropped. drop dropped c.args.self.now.cutter.unread) c.requires.shown.kept in
    plans_line (terms_of c.args.config.now) c.args.self.now c.args.now c.args.end
    (c.in_ok-todo.todo, c.in_ok-todo.step) c.requires.ready c.requires.lasting
    c.requires.shown
    (subst (λ octets. IsAskedBy (terms_of c.args.config.now) c.args.now c.args.self.now
    (command_of (take c.args.end octets)) (c.in_ok-todo.todo, c.in_ok-todo.step)) kept
    c.in_ok-todo.ensures)
