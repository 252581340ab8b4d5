use Rattle.std.specs.Option.{option_copied}
use Rattle.article_verdict.specs.Config.{terms_of}
use Rattle.peer_session.proofs.PlanBlocks.{plans_owed}
use Rattle.peer_session.proofs.session.Session.due_of_text.Goals as goal

pub returns-in_ok-todo-in-AwaitsBlock : goal.returns-in_ok-todo-in-AwaitsBlock
returns-in_ok-todo-in-AwaitsBlock c =
    plans_owed (terms_of c.args.config.now) c.args.self.now c.args.now c.args.read
    c.in-AwaitsBlock.field-0 c.in-AwaitsBlock.id (option_copied c.args.text)
    (c.in_ok-todo-in-AwaitsBlock.todo, c.in_ok-todo-in-AwaitsBlock.step) c.in-AwaitsBlock.is
    c.requires.text
    c.in_ok-todo-in-AwaitsBlock.ensures
