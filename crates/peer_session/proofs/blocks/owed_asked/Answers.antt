use Rattle.std.proofs.Common.{◌∙◌, ap, subst, sym}
use Rattle.std.specs.Option.{option_copied}
use Rattle.relay_model.specs.Judging.{Judges}
use Rattle.article_verdict.specs.Config.{terms_of}
use Rattle.article_verdict.specs.Verdict.{verdict_view}
use Rattle.peer_session.specs.Asking as asking
use Rattle.peer_session.specs.Asking.{IsOwedAsked}
use Rattle.peer_session.specs.declared.phase.Todo.TheVariants as todos
use Rattle.peer_session.specs.declared.steps.Step.TheVariants as steps
use Rattle.peer_session.proofs.blocks.owed_asked.Goals as goal

pub returns-in-Ok-copied : goal.returns-in-Ok-copied
returns-in-Ok-copied c =
    let w = terms_of c.args.config.now in
    let text = option_copied c.args.text in
    let id = c.in-Some.id in
    let article = c.in-Ok.article in
    subst (λ owed. IsOwedAsked w c.args.peer c.args.now owed text
    (todos.Take c.in-Ok-copied.copy article c.in_ok-room.room, steps.Take c.in_ok-room.asked))
    (sym c.in-Some.is)
    (asking.IsAccepted article
    (subst (λ verdict. Judges w c.args.peer id c.args.now text (verdict_view verdict)) c.in-Ok.is
    c.in_ok-article.ensures)
    (ap (λ copy. (todos.Take copy article c.in_ok-room.room, steps.Take c.in_ok-room.asked))
    c.in-Ok-copied.ensures
    ∙ ap (λ room. (todos.Take id article room, steps.Take c.in_ok-room.asked))
    c.in_ok-room.ensures.room
    ∙ ap (λ copy. (todos.Take id article 0, steps.Take copy)) c.in_ok-room.ensures.copy))

pub returns-in-Err : goal.returns-in-Err
returns-in-Err c =
    let w = terms_of c.args.config.now in
    let text = option_copied c.args.text in
    let id = c.in-Some.id in
    subst (λ owed. IsOwedAsked w c.args.peer c.args.now owed text
    (todos.Refuse c.in_ok-room.room, steps.Refuse c.in_ok-room.asked c.in-Err.reason))
    (sym c.in-Some.is)
    (asking.IsRefused c.in-Err.reason
    (subst (λ verdict. Judges w c.args.peer id c.args.now text (verdict_view verdict)) c.in-Err.is
    c.in_ok-article.ensures)
    (ap (λ room. (todos.Refuse room, steps.Refuse c.in_ok-room.asked c.in-Err.reason))
    c.in_ok-room.ensures.room
    ∙ ap (λ copy. (todos.Refuse 0, steps.Refuse copy c.in-Err.reason))
    c.in_ok-room.ensures.copy))
