use Rattle.std.proofs.Common.{◌∙◌, sym, subst}
use Rattle.article_verdict.specs.Config.{terms_of}
use Rattle.stream_cut.specs.Stream.{LineFound}
use Rattle.peer_session.specs.Planning.{Plans}
use Rattle.peer_session.specs.declared.phase.Todo.TheVariants as todos
use Rattle.peer_session.specs.declared.steps.Step.TheVariants as steps
use Rattle.peer_session.proofs.PlanCommon.{with_stream}
use Rattle.peer_session.proofs.PlanLines.{never_passing, not_passing, plans_too_long, rests_ready}
use Rattle.peer_session.proofs.session.Session.line_due.Goals as goal

pub returns-then-is_passing-clause-due : goal.returns-then-is_passing-clause-due
returns-then-is_passing-clause-due c =
    never_passing (terms_of c.args.config.now) c.args.self.now c.args.now c.rest.result
    c.requires.ready (sym c.is_passing.ensures ∙ c.if-is_passing.true)

pub find_line-requires : goal.find_line-requires
find_line-requires c =
    not_passing c.args.self.now.cutter (sym c.is_passing.ensures ∙ c.if-is_passing.false)

pub returns-in_ok-todo-in-TooLong-clause-due : goal.returns-in_ok-todo-in-TooLong-clause-due
returns-in_ok-todo-in-TooLong-clause-due c =
    let old = c.args.self.now in
    let found = subst (λ found. LineFound old.cutter found) c.in-TooLong.is
    c.find_line.ensures.found
    in
    subst (λ stream. Plans (terms_of c.args.config.now) old c.args.now
    (record { todo = c.in_ok-todo-in-TooLong.todo; read = 0; step = c.in_ok-todo-in-TooLong.step })
    (with_stream old stream)) (sym c.find_line.ensures.same)
    (plans_too_long (terms_of c.args.config.now) old c.args.now
    (c.in_ok-todo-in-TooLong.todo, c.in_ok-todo-in-TooLong.step) c.requires.ready
    c.requires.lasting
    (not_passing old.cutter (sym c.is_passing.ensures ∙ c.if-is_passing.false)) found
    c.in_ok-todo-in-TooLong.ensures)

pub returns-in-Incomplete-clause-due : goal.returns-in-Incomplete-clause-due
returns-in-Incomplete-clause-due c =
    let old = c.args.self.now in
    let found = subst (λ found. LineFound old.cutter found) c.in-Incomplete.is
    c.find_line.ensures.found in
    subst (λ one. Plans (terms_of c.args.config.now) old c.args.now one
    (with_stream old c.find_line.new.self)) (sym c.rest-in-Incomplete.ensures)
    (subst (λ stream. Plans (terms_of c.args.config.now) old c.args.now
    (record { todo = todos.Rest; read = 0; step = steps.Nothing })
    (with_stream old stream)) (sym c.find_line.ensures.same)
    (rests_ready (terms_of c.args.config.now) old c.args.now c.requires.ready c.requires.lasting
    found))
