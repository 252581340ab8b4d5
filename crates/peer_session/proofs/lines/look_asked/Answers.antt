use Rattle.std.proofs.Common.{◌∙◌, ap}
use Rattle.peer_session.specs.declared.phase.Todo.TheVariants as todos
use Rattle.peer_session.specs.declared.steps.Step.TheVariants as steps
use Rattle.peer_session.proofs.lines.look_asked.Goals as goal

pub returns : goal.returns
returns c =
    let asked = c.in_ok-room.copy in
    ap (λ room. (todos.Look c.args.part c.args.id room, steps.Look asked)) c.in_ok-room.ensures.room
    ∙ ap (λ id. (todos.Look c.args.part c.args.id 0, steps.Look id)) c.in_ok-room.ensures.copy
