use Rattle.std.proofs.Common.{◌∙◌, ap, sym}
use Rattle.peer_session.specs.Asking.{IsFull, IsOffered}
use Rattle.peer_session.specs.declared.phase.Todo.TheVariants as todos
use Rattle.peer_session.specs.declared.steps.Step.TheVariants as steps
use Rattle.peer_session.proofs.PlanCommon.{if_ok}
use Rattle.peer_session.proofs.lines.check_asked.Goals as goal

pub returns-then-is_full : goal.returns-then-is_full
returns-then-is_full c =
    if_ok _ _ c.said.result
    (λ one saying. IsFull (sym c.is_full.ensures ∙ c.if-is_full.true) saying) c.said.ensures

pub returns : goal.returns
returns c =
    let id = c.args.id in
    let asked = c.in_ok-room.copy in
    IsOffered (sym c.is_full.ensures ∙ c.if-is_full.false)
    (ap (λ room. (todos.Check id room c.args.now, steps.Offer asked)) c.in_ok-room.ensures.room
    ∙ ap (λ copy. (todos.Check id 0 c.args.now, steps.Offer copy)) c.in_ok-room.ensures.copy)
