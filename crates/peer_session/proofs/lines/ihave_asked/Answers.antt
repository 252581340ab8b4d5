use Rattle.std.proofs.Common.{◌∙◌, ap, sym}
use Rattle.peer_session.specs.Asking.{IsFull, IsOffered}
use Rattle.peer_session.specs.declared.phase.Todo.TheVariants as todos
use Rattle.peer_session.specs.declared.steps.Step.TheVariants as steps
use Rattle.peer_session.proofs.PlanCommon.{if_ok}
use Rattle.peer_session.proofs.lines.ihave_asked.Goals as goal

pub returns-then-is_full : goal.returns-then-is_full
returns-then-is_full c =
    if_ok _ _ c.said.result
    (λ one saying. IsFull (sym c.is_full.ensures ∙ c.if-is_full.true) saying) c.said.ensures

pub returns : goal.returns
returns c =
    let id = c.args.id in
    let now = c.args.now in
    let copy = c.in_ok-copy.copy in
    let asked = c.in_ok-room.asked in
    IsOffered (sym c.is_full.ensures ∙ c.if-is_full.false)
    (ap (λ one. (todos.Ihave id one c.in_ok-room.room now, steps.Offer asked)) c.in_ok-copy.ensures
    ∙ ap (λ room. (todos.Ihave id id room now, steps.Offer asked)) c.in_ok-room.ensures.room
    ∙ ap (λ one. (todos.Ihave id id 0 now, steps.Offer one)) c.in_ok-room.ensures.copy)
