use Rattle.std.proofs.Common.{◌≡◌, ◌∙◌, ap, refl, sym, subst, Err}
use Rattle.news_terms.specs.Command.{command_of}
use Rattle.news_terms.specs.Command as commands
use Rattle.news_terms.specs.Reply as replies
use Rattle.nntp_text.specs.Command.{CommandGives}
use Rattle.article_verdict.specs.Config.{terms_of}
use Rattle.peer_session.specs.Asking.{IsAskedBy}
use Rattle.peer_session.proofs.PlanCommon.{if_ok}
use Rattle.peer_session.proofs.PlanLines.{said_asked}
use Rattle.peer_session.proofs.session.Session.line_asked.Goals as goal

pub returns-in-Err-Unknown : goal.returns-in-Err-Unknown
returns-in-Err-Unknown c =
    let fault : command_of c.args.line.now ≡ Err commands.Unknown =
    subst (λ result. CommandGives result (command_of c.args.line.now))
    (c.in-Err-Unknown.is ∙ ap Err c.in-Err-Unknown.field-0-is) c.parse.ensures in
    if_ok _ _ c.said.result (λ one says.
    subst (λ asked. IsAskedBy (terms_of c.args.config.now) c.args.now c.args.self.now asked one)
    (sym fault) (said_asked (terms_of c.args.config.now) c.args.now c.args.self.now
    (Err commands.Unknown) replies.UnknownCommand one (λ m. refl) says)) c.said.ensures

pub returns-in-Err-Syntax : goal.returns-in-Err-Syntax
returns-in-Err-Syntax c =
    let fault : command_of c.args.line.now ≡ Err commands.Syntax =
    subst (λ result. CommandGives result (command_of c.args.line.now))
    (c.in-Err-Syntax.is ∙ ap Err c.in-Err-Syntax.field-0-is) c.parse.ensures in
    if_ok _ _ c.said-in-Err-Syntax.result (λ one says.
    subst (λ asked. IsAskedBy (terms_of c.args.config.now) c.args.now c.args.self.now asked one)
    (sym fault) (said_asked (terms_of c.args.config.now) c.args.now c.args.self.now
    (Err commands.Syntax) replies.SyntaxError one (λ m. refl) says)) c.said-in-Err-Syntax.ensures
